use Rattle.std.proofs.Common.{◌∙◌, length, string_bytes, sym}
use Rattle.std.proofs.lemmas.List.{append-nil}
use Rattle.std.proofs.lemmas.Slice.Zip.{zip_end}
use Rattle.escrow_schema.proofs.PrintLemmas.{form_past}
use Rattle.escrow_schema.proofs.print.words.push_form.Goals as goal

pub returns : goal.returns
returns c =
    let names = c.args.names.now in
    let coeffs = c.args.coeffs.now in
    let t = zip_end names coeffs c.loop-name.yielded c.into_iter-name-iterator.result c.loop-name.name-iterator c.next.new.self c.next.result (cc) (cc) c.loop-name.yielded_by c.in-None.is c.next.ensures.steps in
    let past = form_past c.loop-name.is_first names coeffs (length c.loop-name.yielded) t in
    let rest = rw past at c.loop-name.invariant.rest in
    sym (append-nil (string_bytes c.loop-name.text)) ∙ rest
