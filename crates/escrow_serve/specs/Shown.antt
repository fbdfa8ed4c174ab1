-- Helps: replies, and those that are given for them.
use Rattle.std.specs.Prelude.{◌≡◌, ◌⊎◌, true, List, [], ◌∷◌}
use Rattle.escrow_num.specs.declared.refusal.Refusal.TheVariants as refusal
use Rattle.escrow_machine.specs.declared.reply.Reply.{Reply}
use Rattle.escrow_machine.specs.declared.reply.Reply.TheVariants as reply
use Rattle.escrow_machine.specs.Reply.{holds_memory}

-- a reply is given, or it shows something, and is refused for memory
abbrev pub IsShown : Reply → Reply → Type 0
IsShown answer given = (given ≡ answer) ⊎ ((holds_memory answer ≡ true) × (given ≡ reply.Refused refusal.Memory))

-- so is each of these replies
abbrev pub AreShown : List Reply → List Reply → Type 0
AreShown [] given = given ≡ []
AreShown (answer ∷ answers) [] = ⊥
AreShown (answer ∷ answers) (one ∷ given) = IsShown answer one × AreShown answers given
