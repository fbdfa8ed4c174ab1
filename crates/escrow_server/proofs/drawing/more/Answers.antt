use Rattle.std.proofs.Common.{◌≡◌, Bool, [], ◌++◌, if◌then◌else◌, append_assoc, ap, sym, ◌∙◌}
use Rattle.std.specs.Prelude.{IfOk, codes, decimal, string_bytes}
use Rattle.std.proofs.lemmas.Bool.{ne_eqb}
use Rattle.std.proofs.lemmas.Result.{IfOk-weaker}
use Rattle.escrow_server.specs.Drawing.{more_text}
use Rattle.escrow_server.proofs.drawing.more.Goals as goal

pub returns-else-count-eq0 : goal.returns-else-count-eq0
returns-else-count-eq0 c =
    let count = c.args.count in
    let text = codes "and " ++ decimal count ++ codes " more databases\u{1b}[K\n" in
    let wrote : IfOk c.format.result (λ s. string_bytes s ≡ text) = simp append_assoc c.format.ensures.ok in
    let chosen : more_text count ≡ text = ap (λ (b : Bool). if b then [] else text) (ne_eqb count 0 c.if-count-eq0.false) in
    IfOk-weaker c.format.result _ (λ s. string_bytes s ≡ more_text count) (λ s is. is ∙ sym chosen) wrote
