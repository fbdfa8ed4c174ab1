-- ALTER TABLE changes the checks of its table.
use Rattle.std.specs.Prelude.{◌≡◌, ◌<◌, ◌≤◌, ◌+◌, ◌-◌, ℕ, zero, suc, Bool, true, false, cond, nat_lt, IsTrue, Option, Some, None, option_map, List, [], ◌∷◌, ◌++◌, length, take, remove, bytes_eq}
use Rattle.std.specs.List.{AllByRecursion, position_or_len}
use Rattle.std.proofs.Common.{inl, inr, refl, sym, ap, subst, ◌∙◌, arith, length-append}
use Rattle.std.proofs.Math.Numerals.{one-add}
use Rattle.std.proofs.lemmas.Bool.{cases_Bool, false_from_ne_true, ltb-true}
use Rattle.std.proofs.lemmas.List.Edits.{length-remove}
use Rattle.std.proofs.lemmas.Option.{cond_some}
use Rattle.escrow_num.specs.declared.refusal.Refusal.TheVariants as refusal
use Rattle.escrow_num.specs.Refusal.{first_refusal}
use Rattle.escrow_num.proofs.Orders.{name_same, same_name}
use Rattle.escrow_statement.specs.declared.statement.AlterText.{AlterText}
use Rattle.escrow_statement.specs.declared.statement.CheckText.{CheckText}
use Rattle.escrow_statement.specs.declared.statement.TableChange.{TableChange}
use Rattle.escrow_statement.specs.declared.statement.TableChange.TheVariants as change
use Rattle.escrow_statement.specs.declared.statement.Statement.TheVariants as statement
use Rattle.escrow_checks.specs.declared.check.Check.{Check}
use Rattle.escrow_schema.specs.declared.table.TableDef.{TableDef}
use Rattle.escrow_schema.specs.Altered.{declared_place, with_altered, with_check, without_check, without_check_at}
use Rattle.escrow_schema.specs.Catalog.{table_named}
use Rattle.escrow_schema.specs.Column.{reservables}
use Rattle.escrow_schema.specs.Definition.{IsTable, range_checks}
use Rattle.escrow_schema.specs.Print.{declared_checks}
use Rattle.escrow_schema.proofs.CatalogLemmas.{found_table}
use Rattle.escrow_schema.proofs.PrintBack.{sound_of}
use Rattle.escrow_machine.specs.declared.reply.Reply.TheVariants as reply
use Rattle.escrow_machine.specs.Altered.{after_alter, drop_refusal_of, table_altered, table_with_check, table_without_check}
use Rattle.escrow_machine.specs.State.{State, is_open}
use Rattle.escrow_machine.specs.Step.{refusals}
use Rattle.escrow_machine.specs.Transition.{alter_refusals, transition_of}
use Rattle.escrow_machine.specs.Valid.{IsValid}
use Rattle.escrow_machine.proofs.Choices.{all_append, append_all}
use Rattle.escrow_machine.proofs.Refusals.{all_passed, failed, first_behind, none_in_front, present}
use Rattle.escrow_machine.proofs.ValidAlter.{altered_named, image_of, in_place, is_added, name_found}
use Rattle.escrow_changes.specs.Changes.{Alters, ChangesChecks}
use Rattle.escrow_changes.specs.Laws.{AlterChangesChecks}
use Rattle.escrow_changes.proofs.Accepted.{done}

-- ADD

-- what holds of a table's checks with more of them holds of the old ones and of those
both_of : (P : Check → Type 0) (declared more ranges : List Check) → AllByRecursion P ((declared ++ more) ++ ranges)
    → AllByRecursion P (declared ++ ranges) × AllByRecursion P more
both_of P declared more ranges all =
    let parts = all_append P (declared ++ more) ranges all in
    let first = all_append P declared more parts.0 in
    (append_all P declared ranges first.0 parts.1, first.1)

adds : (old made : TableDef) (text : CheckText) → IsTable old → with_check old text ≡ Some made → ChangesChecks old (change.Add text) made.checks
adds old made text is_table e =
    let added = is_added old text made e in
    let sound : old.checks ≡ declared_checks old ++ range_checks old.columns = (sound_of old is_table).checks in
    let one : length made.checks ≡ length ((declared_checks old ++ added.more) ++ range_checks old.columns) = ap (λ (cs : List Check). length cs) added.checks in
    let two : length ((declared_checks old ++ added.more) ++ range_checks old.columns) ≡ length (declared_checks old ++ added.more) + length (range_checks old.columns) =
    length-append (declared_checks old ++ added.more) (range_checks old.columns) in
    let three : length (declared_checks old ++ added.more) ≡ length (declared_checks old) + length added.more = length-append (declared_checks old) added.more in
    let four : length old.checks ≡ length (declared_checks old ++ range_checks old.columns) = ap (λ (cs : List Check). length cs) sound in
    let five : length (declared_checks old ++ range_checks old.columns) ≡ length (declared_checks old) + length (range_checks old.columns) =
    length-append (declared_checks old) (range_checks old.columns) in (
      added.more,
      added.new,
      omega (arith, one, two, three, four, five),
      λ test all.
          let P : Check → Type 0 = λ check. IsTrue (test check) in
          let both = both_of P (declared_checks old) added.more (range_checks old.columns) (subst (AllByRecursion P) added.checks all) in
          (subst (AllByRecursion P) (sym sound) both.0, both.1),
    )

-- DROP CONSTRAINT

weaken : (P Q : Check → Type 0) (checks : List Check) → ((c : Check) → P c → Q c) → AllByRecursion P checks → AllByRecursion Q checks
weaken P Q [] weaker all = tt
weaken P Q (c ∷ checks) weaker all = (weaker c all.0, weaken P Q checks weaker all.1)

-- without the first check of a name among the first ones, what holds of the others holds of all of other names
without_first : (P : Check → Type 0) (name : List ℕ) (n : ℕ) (checks : List Check)
    → position_or_len (λ (c : Check). bytes_eq c.name name) (take n checks) < length (take n checks)
    → AllByRecursion P (remove checks (position_or_len (λ (c : Check). bytes_eq c.name name) (take n checks)))
    → AllByRecursion (λ c. ¬ (c.name ≡ name) → P c) checks
without_first P name zero checks within all = absurd (omega arith)
without_first P name (suc n) [] within all = tt
without_first P name (suc n) (c ∷ checks) within all =
    elim (cases_Bool (bytes_eq c.name name)) [
      | inl same ↦ (let rest : AllByRecursion P checks = rw same at all in
          (λ differs. absurd (differs (name_same c.name name same)), weaken P (λ x. ¬ (x.name ≡ name) → P x) checks (λ x h _. h) rest))
      | inr other ↦ (let shorter : position_or_len (λ (x : Check). bytes_eq x.name name) (take n checks) < length (take n checks) =
          (let k : 1 + position_or_len (λ (x : Check). bytes_eq x.name name) (take n checks) < length (take (suc n) (c ∷ checks)) = rw other at within in omega arith) in
          let rest : P c × AllByRecursion P (remove checks (position_or_len (λ (x : Check). bytes_eq x.name name) (take n checks))) = rw (other, one-add) at all in
          (λ _. rest.0, without_first P name n checks shorter rest.1))
    ]

fewer_taken : {A : Type 0} (n : ℕ) (xs : List A) → length (take n xs) ≤ length xs
fewer_taken zero xs = omega arith
fewer_taken (suc n) [] = omega arith
fewer_taken (suc n) (x ∷ xs) = let fewer = fewer_taken n xs in omega arith

loses : (old made : TableDef) (name : List ℕ) → without_check old name ≡ Some made → ChangesChecks old (change.Drop name) made.checks
loses old made name e =
    let first : ℕ = position_or_len (λ (c : Check). bytes_eq c.name name) (declared_checks old) in
    let at = image_of (without_check_at old) (declared_place old name) made e in
    let place = cond_some (nat_lt first (length (declared_checks old))) first at.0 at.1 in
    let within : first < length (declared_checks old) = ltb-true first (length (declared_checks old)) place.0 in
    let made_is : made.checks ≡ remove old.checks first = ap (λ (t : TableDef). t.checks) (sym at.2) ∙ ap (λ (i : ℕ). remove old.checks i) (sym place.1) in
    let fewer : length (declared_checks old) ≤ length old.checks = fewer_taken (length old.checks - length (reservables old.columns)) old.checks in
    let among : first < length old.checks = omega arith in
    let less : length (remove old.checks first) + 1 ≡ length old.checks = length-remove old.checks first among in
    let many : length made.checks ≡ length (remove old.checks first) = ap (λ (cs : List Check). length cs) made_is in (
      omega (arith, less, many),
      λ test all.
          let P : Check → Type 0 = λ check. IsTrue (test check) in
          without_first P name (length old.checks - length (reservables old.columns)) old.checks within (subst (AllByRecursion P) made_is all),
    )

changes : (s : State) (text : AlterText) (old made : TableDef) → IsTable old → (asked : TableChange) → table_named s.catalog text.table ≡ Some old
    → table_altered s text.table asked ≡ Some made → ChangesChecks old asked made.checks
changes s text old made is_table (change.Add check) named e = adds old made check is_table (rw named at e)
changes s text old made is_table (change.Drop name) named e = loses old made name (rw named at e)

-- the altered table has other checks alone
alike_made : (s : State) (name : List ℕ) (old made : TableDef) (asked : TableChange) → table_named s.catalog name ≡ Some old
    → table_altered s name asked ≡ Some made → made ≡ record old { checks = made.checks }
alike_made s name old made (change.Add check) named e = (is_added old check made (rw named at e)).alike
alike_made s name old made (change.Drop check) named e =
    let at = image_of (without_check_at old) (declared_place old check) made (rw named at e) in
    sym at.2 ∙ ap (λ (cs : List Check). record old { checks = cs }) (ap (λ (t : TableDef). t.checks) at.2)

-- a table is made if nothing refuses the change
made_of : (s : State) (name : List ℕ) (old : TableDef) (asked : TableChange) → table_named s.catalog name ≡ Some old → drop_refusal_of s name asked ≡ None
    → first_refusal (alter_refusals s name asked) ≡ None → (made : TableDef) × (table_altered s name asked ≡ Some made)
made_of s name old (change.Add check) named early late = present (table_with_check s name check) refusal.BadDefinition (all_passed (alter_refusals s name (change.Add check)) late).0
made_of s name old (change.Drop check) named early late = present (table_without_check s name check) refusal.NoSuchConstraint early

-- THE CATALOG

-- the altered table is found by its name, and the others as before
here_altered : (catalog : List TableDef) (name : List ℕ) (old made : TableDef) → table_named catalog name ≡ Some old → made.name ≡ old.name
    → table_named (with_altered made catalog) name ≡ Some made
here_altered catalog name old made named same =
    let alike : bytes_eq old.name made.name ≡ true = rw same (same_name old.name) in
    altered_named made catalog name ∙ rw named (ap (λ (b : Bool). Some (cond b made old)) alike)

not_altered : (made : TableDef) (name : List ℕ) (o : Option TableDef) → ((t : TableDef) → o ≡ Some t → t.name ≡ name) → ¬ (name ≡ made.name)
    → option_map (in_place made) o ≡ o
not_altered made name None called differ = refl
not_altered made name (Some t) called differ =
    let other : bytes_eq t.name made.name ≡ false = false_from_ne_true (bytes_eq t.name made.name) (λ same. differ (sym (called t refl) ∙ name_same t.name made.name same)) in
    ap (λ (b : Bool). Some (cond b made t)) other

alters : (s : State) (session : ℕ) (text : AlterText) → IsValid s → first_refusal (refusals (transition_of s session (statement.Alter text))) ≡ None
    → Alters s session text (transition_of s session (statement.Alter text)).reply (transition_of s session (statement.Alter text)).next
unfolding transition_of
alters s session text valid none =
    let t = transition_of s session (statement.Alter text) in
    let passed = all_passed t.early (none_in_front t.early t.late none) in
    let late : first_refusal (alter_refusals s text.table text.change) ≡ None = sym (first_behind t.early t.late (none_in_front t.early t.late none)) ∙ none in
    let old = present (table_named s.catalog text.table) refusal.NoSuchTable passed.1.0 in
    let is_table : IsTable old.0 = found_table s.catalog text.table old.0 valid.orderly.tables old.1 in
    let made = made_of s text.table old.0 text.change old.1 passed.1.1.0 late in
    let alike = alike_made s text.table old.0 made.0 text.change old.1 made.1 in
    let same : made.0.name ≡ old.0.name = ap (λ (x : TableDef). x.name) alike in
    let called : old.0.name ≡ text.table = name_found s.catalog text.table old.0 old.1 in
    let now : after_alter s (table_altered s text.table text.change) ≡ record s { catalog = with_altered made.0 s.catalog } = ap (after_alter s) made.1 in
    subst (Alters s session text (reply.Altered text.table)) (sym now) (record {
      replies = refl;
      closed = failed (is_open session s) refusal.TransactionOpen passed.0;
      old = old.0;
      named = old.1;
      table = made.0;
      now = here_altered s.catalog text.table old.0 made.0 old.1 same;
      alike = alike;
      checks = changes s text old.0 made.0 is_table text.change old.1 made.1;
      others = λ other differ.
          altered_named made.0 s.catalog other
          ∙ not_altered made.0 other (table_named s.catalog other) (λ t found. name_found s.catalog other t found) (λ is. differ (is ∙ same ∙ called));
      rest = refl;
    })

pub alter_changes_checks : AlterChangesChecks
alter_changes_checks s session text valid = done (Alters s session text) s session (statement.Alter text) (alters s session text valid)
