use Rattle.std.proofs.Common.{◌≡◌, ◌==◌, ◌+◌, ℕ, Bool, false, ◌++◌, if◌then◌else◌, append_assoc, ap, sym, ◌∙◌}
use Rattle.std.specs.Prelude.{codes, decimal, string_bytes}
use Rattle.std.proofs.lemmas.Bool.{ne_eqb}
use Rattle.std.proofs.lemmas.Result.{IfOk-weaker}
use Rattle.escrow_server.specs.Files.{file_of}
use Rattle.escrow_server.proofs.stores.file_of.Goals as goal

pub returns-else-place-eq0 : goal.returns-else-place-eq0
returns-else-place-eq0 c =
    let path = c.args.path.now in
    let place = c.args.place in
    let further : (place == 0) ≡ false = ne_eqb place 0 c.if-place-eq0.false in
    let chosen : file_of path place ≡ path ++ codes "." ++ decimal (place + 1) = ap (λ (b : Bool). if b then path else path ++ codes "." ++ decimal (place + 1)) further in
    let parts : path ++ (codes "." ++ decimal (place + 1)) ≡ path ++ codes "." ++ decimal (place + 1) = sym (append_assoc path (codes ".") (decimal (place + 1))) in
    let number = ap (λ (n : ℕ). path ++ (codes "." ++ decimal (n + 1))) c.from.ensures in
    IfOk-weaker c.format.result _ (λ s. string_bytes s ≡ file_of path place) (λ s wrote. wrote ∙ number ∙ parts ∙ sym chosen) c.format.ensures.ok
