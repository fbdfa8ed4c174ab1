use Rattle.std.proofs.Common.{◌≡◌, ◌++◌, true, length, drop, string_bytes}
use Rattle.escrow_schema.specs.Print.{form_words}
use Rattle.escrow_schema.proofs.print.words.push_form.Given as goal

abbrev pub invariant-loop-name : goal.invariant-loop-name
invariant-loop-name l = record {
  can_next : (goal.iterator-loop-name).can_next l.name-iterator;
  is_finite : (goal.iterator-loop-name).is_finite l.name-iterator;
  rest : string_bytes l.text ++ form_words l.is_first (drop (length l.yielded) l.names) (drop (length l.yielded) l.coeffs)
      ≡ string_bytes l.initial.text ++ form_words true l.names l.coeffs;
}
