use Rattle.std.proofs.Common.{◌≡◌, ◌++◌, List, ℕ, IfOk, ap, ◌∙◌, string_bytes, codes}
use Rattle.std.proofs.lemmas.Result.{IfOk-weaker}
use Rattle.escrow_server.specs.Drawing.{erasing_text}
use Rattle.escrow_server.proofs.drawing.erasing.Goals as goal

pub returns : goal.returns
returns c =
    let wrote : IfOk c.format.result (λ text. string_bytes text ≡ string_bytes c.in_ok-back.back ++ codes "\u{1b}[J") = c.format.ensures.ok in
    IfOk-weaker c.format.result _ (λ text. string_bytes text ≡ erasing_text c.args.lines) (λ text is. is ∙ ap (λ (back : List ℕ). back ++ codes "\u{1b}[J") c.in_ok-back.ensures) wrote
