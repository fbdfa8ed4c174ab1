-- What each database did, line by line.
use Rattle.std.specs.Prelude.{◌≡◌, ◌⊎◌, ℕ, ◌==◌, Some, List, [], ◌∷◌, ◌++◌, length, map, slice_get, slice_set}
use Rattle.std.proofs.Common.{◌≢◌, inl, inr, refl, sym, ap, subst, ◌∙◌, append_assoc}
use Rattle.std.proofs.lemmas.List.{map-append}
use Rattle.std.proofs.lemmas.List.Elements.{filter-append}
use Rattle.std.proofs.lemmas.Bool.{cases_eq, eq-eqb, ne_eqb}
use Rattle.std.proofs.lemmas.Option.{slice_get_within}
use Rattle.sqlite_trees.specs.declared.store.Store.{Ghosts}
use Rattle.escrow_machine.specs.declared.event.Event.{Event}
use Rattle.escrow_machine.specs.declared.reply.Reply.{Reply}
use Rattle.escrow_core.specs.Database.{Database}
use Rattle.escrow_script.specs.Line.{nothing, join, Reads}
use Rattle.escrow_serve.specs.Asked.{Given, GivesLines, events_at, answers_at, given_at}
use Rattle.escrow_serve.specs.Ran.{EachRan, LineRan, Ran}
use Rattle.escrow_serve.proofs.Elements.{get_set_same, get_set_other}
use Rattle.escrow_serve.proofs.RanLemmas.{ran_none}

pub same_item : {A : Type 0} (x y : A) → Some x ≡ Some y → x ≡ y
same_item x y e = cc

-- ONE EVENT

pub own_given : (place : ℕ) (happened : Event) (answer : Reply)
    → (events_at place (record { place = place; happened = happened; answer = answer } ∷ []) ≡ happened ∷ []) × (answers_at place (record { place = place; happened = happened; answer = answer } ∷ []) ≡ answer ∷ [])
own_given place happened answer = rw (eq-eqb place place refl) (refl, refl)

pub other_given : (place other : ℕ) (happened : Event) (answer : Reply) → other ≢ place
    → (events_at other (record { place = place; happened = happened; answer = answer } ∷ []) ≡ []) × (answers_at other (record { place = place; happened = happened; answer = answer } ∷ []) ≡ [])
other_given place other happened answer apart = rw (ne_eqb place other (λ same. apart (sym same))) (refl, refl)

-- EVENTS AND MORE EVENTS

pub events_then : (place : ℕ) (given more : List Given) → events_at place (given ++ more) ≡ events_at place given ++ events_at place more
events_then place given more = ap (map (λ (g : Given). g.happened)) (filter-append (λ (g : Given). g.place == place) given more) ∙ map-append (λ (g : Given). g.happened) (given_at place given) (given_at place more)

pub answers_then : (place : ℕ) (given more : List Given) → answers_at place (given ++ more) ≡ answers_at place given ++ answers_at place more
answers_then place given more = ap (map (λ (g : Given). g.answer)) (filter-append (λ (g : Given). g.place == place) given more) ∙ map-append (λ (g : Given). g.answer) (given_at place given) (given_at place more)

pub gives_then : (databases sessions : ℕ) (lines more : List (List ℕ)) (given others : List Given) (out first : List ℕ) → GivesLines databases sessions lines given out
    → GivesLines databases sessions more others first → GivesLines databases sessions (lines ++ more) (given ++ others) (out ++ first)
gives_then databases sessions [] more given others out first none gives =
    subst (λ (gs : List Given). GivesLines databases sessions more (gs ++ others) (out ++ first)) (sym none.0)
    (subst (λ (o : List ℕ). GivesLines databases sessions more others (o ++ first)) (sym none.1) gives)
gives_then databases sessions (line ∷ lines) more given others out first h gives = (
  h.0,
  h.1,
  h.2,
  h.3 ++ others,
  h.4,
  h.5 ++ first,
  h.6,
  gives_then databases sessions lines more h.3 others h.5 first h.7 gives,
  ap (λ (gs : List Given). gs ++ others) h.8 ∙ append_assoc h.2 h.3 others,
  ap (λ (o : List ℕ). o ++ first) h.9 ∙ append_assoc h.4 h.5 first,
)

module _ {S : Type 0} (g : Ghosts S) where
  -- nothing was given
  pub each_none : (databases : List (Database S)) → EachRan g databases [] databases
  each_none databases = λ place old new found there.
      let same : old ≡ new = same_item old new (sym found ∙ there) in
      subst (λ (d : Database S). Ran g old [] [] d) same (ran_none g old)

  -- an event was given to one database
  pub each_one : (databases : List (Database S)) (place : ℕ) (happened : Event) (answer : Reply) (old new : Database S) → slice_get databases place ≡ Some old → Ran g old (happened ∷ []) (answer ∷ []) new
      → EachRan g databases (record { place = place; happened = happened; answer = answer } ∷ []) (slice_set databases place new)
  each_one databases place happened answer old new found ran = λ other before after was there. elim (cases_eq other place) [
    | inl here ↦
        let within = slice_get_within databases place old found in
        let is_old : old ≡ before = same_item old before (sym found ∙ subst (λ (p : ℕ). slice_get databases p ≡ Some before) here was) in
        let is_new : new ≡ after = same_item new after (sym (get_set_same databases place new within) ∙ subst (λ (p : ℕ). slice_get (slice_set databases place new) p ≡ Some after) here there) in
        let given = record { place = place; happened = happened; answer = answer } ∷ [] in
        let own = own_given place happened answer in
        subst (λ (p : ℕ). Ran g before (events_at p given) (answers_at p given) after) (sym here)
        (subst (λ (d : Database S). Ran g d (events_at place given) (answers_at place given) after) is_old
        (subst (λ (d : Database S). Ran g old (events_at place given) (answers_at place given) d) is_new
        (subst (λ (es : List Event). Ran g old es (answers_at place given) new) (sym own.0) (subst (λ (rs : List Reply). Ran g old (happened ∷ []) rs new) (sym own.1) ran))))
    | inr apart ↦
        let given = record { place = place; happened = happened; answer = answer } ∷ [] in
        let none = other_given place other happened answer apart in
        let same : before ≡ after = same_item before after (sym was ∙ sym (get_set_other databases place other new apart) ∙ there) in
        subst (λ (d : Database S). Ran g before (events_at other given) (answers_at other given) d) same
        (subst (λ (es : List Event). Ran g before es (answers_at other given) before) (sym none.0) (subst (λ (rs : List Reply). Ran g before [] rs before) (sym none.1) (ran_none g before)))
  ]

  -- a line asks nothing
  pub nothing_ran : (sessions : ℕ) (databases : List (Database S)) (bytes : List ℕ) → Reads (length databases) sessions bytes nothing ⊎ Reads (length databases) sessions bytes join
      → LineRan g sessions databases bytes [] databases
  nothing_ran sessions databases bytes (inl reads) = (nothing, reads, [], (refl, refl), each_none databases)
  nothing_ran sessions databases bytes (inr reads) = (join, reads, [], (refl, refl), each_none databases)
