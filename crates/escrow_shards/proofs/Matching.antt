-- The entries of a session, compared with its receipts.
use Rattle.std.specs.Prelude.{map, filter}
use Rattle.std.proofs.Common.{◌≡◌, ◌↔◌, ◌==◌, ℕ, ◌+◌, ◌<◌, ◌≤◌, true, false, Bool, cond, List, [], ◌∷◌, ◌++◌, length, get_or, drop, refl, sym, ap, ◌∙◌, subst, append_assoc}
use Rattle.std.proofs.lemmas.List.{drop_all, append_cancel_left}
use Rattle.escrow_transcript.specs.declared.entry.Entry.{Entry}
use Rattle.escrow_shards.specs.declared.pass.Receipt.{Receipt}
use Rattle.escrow_shards.specs.Part.{Part, parts_of, entries_of}
use Rattle.escrow_shards.specs.Receipts.{receipt_of, receipts_of}
use Rattle.escrow_shards.proofs.Following.{parts_here, parts_past}
use Rattle.escrow_shards.proofs.Rest.{rest_at, same_when}

-- what an entry adds, for this session or another
abbrev pub beside : Bool → Entry → List Receipt → List Receipt
beside b e rest = cond b (receipt_of e ∷ rest) rest

pub receipts_cons : (session : ℕ) (e : Entry) (es : List Entry) → receipts_of session (e ∷ es) ≡ beside (e.session == session) e (receipts_of session es)
receipts_cons session e es =
    let among = filter (λ (x : Entry). x.session == session) es in
    elim (e.session == session) as (λ (b : Bool). map receipt_of (cond b (e ∷ among) among) ≡ beside b e (map receipt_of among)) [ true ↦ refl | false ↦ refl ]

-- the receipts of concatenated entries are the concatenated receipts
pub receipts_append : (session : ℕ) (xs ys : List Entry) → receipts_of session (xs ++ ys) ≡ receipts_of session xs ++ receipts_of session ys
receipts_append session [] ys = refl
receipts_append session (x ∷ xs) ys =
    let later = receipts_append session xs ys in
    receipts_cons session x (xs ++ ys)
    ∙ (elim (x.session == session) as (λ (b : Bool). beside b x (receipts_of session (xs ++ ys)) ≡ beside b x (receipts_of session xs) ++ receipts_of session ys) [
      | true ↦ ap (λ (rest : List Receipt). receipt_of x ∷ rest) later
      | false ↦ later
    ])
    ∙ ap (λ (rest : List Receipt). rest ++ receipts_of session ys) (sym (receipts_cons session x xs))

-- the remaining receipts of a session, at one of its entries and at another's
pub entries_here : (session : ℕ) (entries : List Entry) (i : ℕ) (e : Entry) → i < length entries → e ≡ get_or entries i e → (e.session == session) ≡ true
    → receipts_of session (drop i entries) ≡ receipt_of e ∷ receipts_of session (drop (i + 1) entries)
entries_here session entries i e below at of =
    ap (receipts_of session) (rest_at entries i e below at) ∙ receipts_cons session e (drop (i + 1) entries)
    ∙ ap (λ (b : Bool). beside b e (receipts_of session (drop (i + 1) entries))) of

pub entries_past : (session : ℕ) (entries : List Entry) (i : ℕ) (e : Entry) → i < length entries → e ≡ get_or entries i e → (e.session == session) ≡ false
    → receipts_of session (drop i entries) ≡ receipts_of session (drop (i + 1) entries)
entries_past session entries i e below at of =
    ap (receipts_of session) (rest_at entries i e below at) ∙ receipts_cons session e (drop (i + 1) entries)
    ∙ ap (λ (b : Bool). beside b e (receipts_of session (drop (i + 1) entries))) of

-- a list begins with another and continues with a rest
abbrev pub Begins : List Receipt → List Receipt → List Receipt → Type 0
Begins all front rest = all ≡ front ++ rest

module _ (session : ℕ) (receipts : List Receipt) (entries : List Entry) (from : ℕ) where
  -- the remaining receipts fit exactly if all do, whatever follows them
  abbrev pub Fits : ℕ → ℕ → Type 0
  Fits i next =
      (rest : List Receipt)
      → Begins (drop from receipts) (receipts_of session entries) rest ↔ Begins (drop next receipts) (receipts_of session (drop i entries)) rest

  pub fits_past : (i next : ℕ) (e : Entry) → i < length entries → e ≡ get_or entries i e → (e.session == session) ≡ false → Fits i next → Fits (i + 1) next
  fits_past i next e below at of fits rest =
      subst (λ (r : List Receipt). Begins (drop from receipts) (receipts_of session entries) rest ↔ Begins (drop next receipts) r rest)
      (entries_past session entries i e below at of) (fits rest)

  pub fits_here : (i next : ℕ) (e : Entry) (r : Receipt) → i < length entries → e ≡ get_or entries i e → (e.session == session) ≡ true
      → next < length receipts → r ≡ get_or receipts next r → r ≡ receipt_of e → Fits i next → Fits (i + 1) (next + 1)
  fits_here i next e r below at of left there same fits rest =
      let more = receipts_of session (drop (i + 1) entries) in
      let step : Begins (drop next receipts) (receipts_of session (drop i entries)) rest ↔ Begins (drop (next + 1) receipts) more rest = (
        (λ q.
            let h : r ∷ drop (next + 1) receipts ≡ receipt_of e ∷ (more ++ rest) =
            sym (rest_at receipts next r left there) ∙ q ∙ ap (λ (l : List Receipt). l ++ rest) (entries_here session entries i e below at of) in
            cc),
        (λ q.
            rest_at receipts next r left there ∙ ap (λ (x : Receipt). x ∷ drop (next + 1) receipts) same ∙ ap (λ (l : List Receipt). receipt_of e ∷ l) q
            ∙ ap (λ (l : List Receipt). l ++ rest) (sym (entries_here session entries i e below at of))),
      ) in
      same_when (fits rest) step

  -- no receipt is left for an entry
  pub fits_none : (i next : ℕ) (e : Entry) → i < length entries → e ≡ get_or entries i e → (e.session == session) ≡ true
      → length receipts ≤ next → Fits i next → (rest : List Receipt) → Begins (drop from receipts) (receipts_of session entries) rest → ⊥
  fits_none i next e below at of past fits rest all =
      let more = receipts_of session (drop (i + 1) entries) in
      let h : [] ≡ receipt_of e ∷ (more ++ rest) =
      sym (drop_all next receipts past) ∙ (fits rest).0 all ∙ ap (λ (l : List Receipt). l ++ rest) (entries_here session entries i e below at of) in
      cc

  -- the next receipt differs
  pub fits_other : (i next : ℕ) (e : Entry) (r : Receipt) → i < length entries → e ≡ get_or entries i e → (e.session == session) ≡ true
      → next < length receipts → r ≡ get_or receipts next r → (r ≡ receipt_of e → ⊥) → Fits i next
      → (rest : List Receipt) → Begins (drop from receipts) (receipts_of session entries) rest → ⊥
  fits_other i next e r below at of left there other fits rest all =
      let more = receipts_of session (drop (i + 1) entries) in
      let h : r ∷ drop (next + 1) receipts ≡ receipt_of e ∷ (more ++ rest) =
      sym (rest_at receipts next r left there) ∙ (fits rest).0 all ∙ ap (λ (l : List Receipt). l ++ rest) (entries_here session entries i e below at of) in
      other (let same : r ≡ receipt_of e = cc in same)

  -- at the end
  pub fits_end : (i next : ℕ) → length entries ≤ i → Fits i next → Begins (drop from receipts) (receipts_of session entries) (drop next receipts)
  fits_end i next past fits = (fits (drop next receipts)).1 (sym (ap (λ (es : List Entry). receipts_of session es ++ drop next receipts) (drop_all i entries past)))

-- what a part of the database adds
pub receipts_here : {S : Type 0} (d session : ℕ) (parts : List (Part S)) (i : ℕ) (p : Part S) → i < length parts → p ≡ get_or parts i p → (p.database == d) ≡ true
    → receipts_of session (entries_of (parts_of d (drop i parts))) ≡ receipts_of session p.entries ++ receipts_of session (entries_of (parts_of d (drop (i + 1) parts)))
receipts_here {S} d session parts i p below at of =
    ap (λ (ps : List (Part S)). receipts_of session (entries_of ps)) (parts_here d parts i p below at of)
    ∙ receipts_append session p.entries (entries_of (parts_of d (drop (i + 1) parts)))

module _ {S : Type 0} (d session : ℕ) (receipts : List Receipt) (parts : List (Part S)) where
  -- the receipts of the remaining parts
  abbrev pub left_of : ℕ → List Receipt
  left_of i = receipts_of session (entries_of (parts_of d (drop i parts)))

  abbrev pub FitParts : ℕ → ℕ → Type 0
  FitParts i next = (rest : List Receipt) → Begins receipts (receipts_of session (entries_of (parts_of d parts))) rest ↔ Begins (drop next receipts) (left_of i) rest

  pub fit_parts_past : (i next : ℕ) (p : Part S) → i < length parts → p ≡ get_or parts i p → (p.database == d) ≡ false → FitParts i next → FitParts (i + 1) next
  fit_parts_past i next p below at of fits rest =
      subst (λ (ps : List (Part S)). Begins receipts (receipts_of session (entries_of (parts_of d parts))) rest ↔ Begins (drop next receipts) (receipts_of session (entries_of ps)) rest)
      (parts_past d parts i p below at of) (fits rest)

  pub fit_parts_here : (i next end : ℕ) (p : Part S) → i < length parts → p ≡ get_or parts i p → (p.database == d) ≡ true
      → Begins (drop next receipts) (receipts_of session p.entries) (drop end receipts) → FitParts i next → FitParts (i + 1) end
  fit_parts_here i next end p below at of took fits rest =
      let front = receipts_of session p.entries in
      let here : left_of i ≡ front ++ left_of (i + 1) = receipts_here d session parts i p below at of in
      let step : Begins (drop next receipts) (left_of i) rest ↔ Begins (drop end receipts) (left_of (i + 1)) rest = (
        (λ q.
            append_cancel_left front (drop end receipts) (left_of (i + 1) ++ rest)
            (sym took ∙ q ∙ ap (λ (l : List Receipt). l ++ rest) here ∙ append_assoc front (left_of (i + 1)) rest)),
        (λ q.
            took ∙ ap (λ (l : List Receipt). front ++ l) q ∙ sym (append_assoc front (left_of (i + 1)) rest) ∙ ap (λ (l : List Receipt). l ++ rest) (sym here)),
      ) in
      same_when (fits rest) step

  pub fit_parts_none : (i next : ℕ) (p : Part S) → i < length parts → p ≡ get_or parts i p → (p.database == d) ≡ true
      → ((rest : List Receipt) → Begins (drop next receipts) (receipts_of session p.entries) rest → ⊥) → FitParts i next
      → (rest : List Receipt) → Begins receipts (receipts_of session (entries_of (parts_of d parts))) rest → ⊥
  fit_parts_none i next p below at of none fits rest all =
      let front = receipts_of session p.entries in
      none (left_of (i + 1) ++ rest)
      ((fits rest).0 all ∙ ap (λ (l : List Receipt). l ++ rest) (receipts_here d session parts i p below at of) ∙ append_assoc front (left_of (i + 1)) rest)

  pub fit_parts_end : (i next : ℕ) → length parts ≤ i → FitParts i next → Begins receipts (receipts_of session (entries_of (parts_of d parts))) (drop next receipts)
  fit_parts_end i next past fits =
      (fits (drop next receipts)).1 (sym (ap (λ (ps : List (Part S)). receipts_of session (entries_of (parts_of d ps)) ++ drop next receipts) (drop_all i parts past)))

-- the receipts that follow those of the parts are those of the last transcript
pub last_fits : {S : Type 0} (session : ℕ) (receipts left : List Receipt) (parts : List (Part S)) (last : List Entry)
    → Begins receipts (receipts_of session (entries_of parts)) left → receipts ≡ receipts_of session (entries_of parts ++ last) → left ≡ receipts_of session last
last_fits session receipts left parts last front all =
    append_cancel_left (receipts_of session (entries_of parts)) left (receipts_of session last) (sym front ∙ all ∙ receipts_append session (entries_of parts) last)

pub all_fit : {S : Type 0} (session : ℕ) (receipts left : List Receipt) (parts : List (Part S)) (last : List Entry)
    → Begins receipts (receipts_of session (entries_of parts)) left → left ≡ receipts_of session last → receipts ≡ receipts_of session (entries_of parts ++ last)
all_fit session receipts left parts last front rest =
    front ∙ ap (λ (l : List Receipt). receipts_of session (entries_of parts) ++ l) rest ∙ sym (receipts_append session (entries_of parts) last)
