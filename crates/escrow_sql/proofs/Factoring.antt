-- The grammar that is read has the same sentences as the grammar of requests, with the same meanings.
use Rattle.std.proofs.Common.{ℕ, List, inl, inr}
use Rattle.escrow_sql.specs.declared.token.Token.{Token}
use Rattle.escrow_sql.specs.Grammar.{Grammar, sequence, either, Sentence, Begins, IsFirstFault}
use Rattle.escrow_sql.specs.Statement.{show, body, request}
use Rattle.escrow_sql.specs.Factored.{factored_show, factored_body, factored_request}

-- each sentence of one grammar is a sentence of the other, with the same meaning
pub record Keeps {V : Type 0} (g h : Grammar V) : Type 0 where
  pub kept : (ts : List Token) (v : V) → Sentence g ts v → Sentence h ts v
  pub back : (ts : List Token) (v : V) → Sentence h ts v → Sentence g ts v

keeps_sequence : {A B V : Type 0} {a c : Grammar A} {b : Grammar B} {f : A → B → V} → Keeps a c → Keeps (sequence a b f) (sequence c b f)
keeps_sequence k = record {
  kept = λ ts v s. (s.0, s.1, s.2, s.3, s.4, k.kept s.0 s.2 s.5, s.6, s.7);
  back = λ ts v s. (s.0, s.1, s.2, s.3, s.4, k.back s.0 s.2 s.5, s.6, s.7);
}

keeps_second : {V : Type 0} {a b c : Grammar V} → Keeps b c → Keeps (either a b) (either a c)
keeps_second k = record {
  kept = λ ts v. elim [ inl s ↦ inl s | inr s ↦ inr (k.kept ts v s) ];
  back = λ ts v. elim [ inl s ↦ inl s | inr s ↦ inr (k.back ts v s) ];
}

keeps_same : {V : Type 0} {g : Grammar V} → Keeps g g
keeps_same = record { kept = λ ts v s. s; back = λ ts v s. s }

-- a common beginning of alternatives may be factored out before all of them, if it may be for those after the first
taken_out : {A B V : Type 0} {a : Grammar A} {b c : Grammar B} {others : Grammar V} {f : A → B → V}
    → Keeps others (sequence a c f) → Keeps (either (sequence a b f) others) (sequence a (either b c) f)
taken_out k = record {
  kept = λ ts v. elim [
    | inl s ↦ (s.0, s.1, s.2, s.3, s.4, s.5, inl s.6, s.7)
    | inr o ↦ let s = k.kept ts v o in (s.0, s.1, s.2, s.3, s.4, s.5, inr s.6, s.7)
  ];
  back = λ ts v s. elim s.6 [
    | inl r ↦ inl (s.0, s.1, s.2, s.3, s.4, s.5, r, s.7)
    | inr r ↦ inr (k.back ts v (s.0, s.1, s.2, s.3, s.4, s.5, r, s.7))
  ];
}

show_factored : Keeps show factored_show
unfolding show factored_show
show_factored = taken_out (taken_out (taken_out keeps_same))

body_factored : Keeps body factored_body
unfolding body factored_body
body_factored = keeps_second (keeps_second (keeps_second show_factored))

pub factored : Keeps request factored_request
unfolding request factored_request
factored = keeps_sequence body_factored

-- the relation is symmetric
pub flipped : {V : Type 0} {g h : Grammar V} → Keeps g h → Keeps h g
flipped k = record { kept = k.back; back = k.kept }

begins_kept : {V : Type 0} {g h : Grammar V} → Keeps g h → (ts : List Token) → Begins g ts → Begins h ts
begins_kept k ts b = (b.0, b.1, k.kept _ b.1 b.2)

-- both grammars have the same first fault
pub fault_kept : {V : Type 0} {g h : Grammar V} → Keeps g h → (ts : List Token) (n : ℕ) → IsFirstFault g ts n → IsFirstFault h ts n
fault_kept k ts n f = record {
  within = f.within;
  begins = begins_kept k _ f.begins;
  unexpected = λ before b. f.unexpected before (begins_kept (flipped k) _ b);
  too_short = λ end v s. f.too_short end v (k.back ts v s);
}
