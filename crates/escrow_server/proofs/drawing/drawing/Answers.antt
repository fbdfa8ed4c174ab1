use Rattle.std.proofs.Common.{◌≡◌, ◌++◌, List, ℕ, IfOk, ap, ◌∙◌, string_bytes, codes, append_assoc}
use Rattle.std.proofs.lemmas.Result.{IfOk-weaker}
use Rattle.escrow_server.specs.Drawing.{drawing_text, height, lines_text, over_text, phase_text}
use Rattle.escrow_server.proofs.drawing.drawing.Goals as goal

pub returns : goal.returns
returns c =
    let layout = c.args.layout in
    let text = drawing_text c.args.is_drawn c.args.progress layout c.args.tallies.now in
    let over = string_bytes c.in_ok-over.over in
    let phase = string_bytes c.in_ok-phase.phase in
    let lines = string_bytes c.in_ok-lines.lines in
    let more = string_bytes c.in_ok-more.more in
    let first = over_text c.args.is_drawn (height layout.shown layout.more) in
    let wrote : IfOk c.format.result (λ text. string_bytes text ≡ over ++ codes "\u{1b}[?7l" ++ phase ++ lines ++ more ++ codes "\u{1b}[?7h") = simp append_assoc c.format.ensures.ok in
    let all : over ++ codes "\u{1b}[?7l" ++ phase ++ lines ++ more ++ codes "\u{1b}[?7h" ≡ text =
    ap (λ (o : List ℕ). o ++ codes "\u{1b}[?7l" ++ phase ++ lines ++ more ++ codes "\u{1b}[?7h") (c.in_ok-over.ensures ∙ ap (over_text c.args.is_drawn) c.height.ensures)
    ∙ ap (λ (p : List ℕ). first ++ codes "\u{1b}[?7l" ++ p ++ lines ++ more ++ codes "\u{1b}[?7h") c.in_ok-phase.ensures
    ∙ ap (λ (l : List ℕ). first ++ codes "\u{1b}[?7l" ++ phase_text c.args.progress ++ l ++ more ++ codes "\u{1b}[?7h") c.in_ok-lines.ensures
    ∙ ap (λ (m : List ℕ). first ++ codes "\u{1b}[?7l" ++ phase_text c.args.progress ++ lines_text c.args.tallies.now layout.shown ++ m ++ codes "\u{1b}[?7h") c.in_ok-more.ensures in
    IfOk-weaker c.format.result _ (λ t. string_bytes t ≡ text) (λ t is. is ∙ all) wrote
