-- Believed: refusals that no database decides, and what is unwritten after a fault.
use Rattle.std.specs.Prelude.{◌≡◌, ◌<◌, ℕ, List, [], length, codes}
use Rattle.escrow_num.specs.declared.refusal.Refusal.{Refusal}
use Rattle.escrow_num.specs.declared.refusal.Refusal.TheVariants as refusal
use Rattle.escrow_sql.specs.declared.fault.ParseFault.{ParseFault}
use Rattle.escrow_sql.specs.declared.fault.ParseFault.TheVariants as fault
use Rattle.escrow_machine.specs.declared.reply.Reply.TheVariants as reply
use Rattle.escrow_reply.specs.Text.{reply_lines, with_prefix}
use Rattle.escrow_script.specs.declared.fault.ServeFault.{ServeFault}
use Rattle.escrow_script.specs.declared.fault.ServeFault.TheVariants as serve_fault
use Rattle.escrow_script.specs.declared.fault.WriteFault.{WriteFault}

-- the refusal of a text that isn't served: 11 with the column of its first fault, or 51
abbrev pub fault_refusal : ParseFault → Refusal
fault_refusal (fault.Syntax column) = refusal.Syntax column
fault_refusal fault.Memory = refusal.Memory

-- the reply to a line that is no line of a script
abbrev pub no_line_text : List ℕ
no_line_text = with_prefix (codes "script> ") (reply_lines (reply.Refused refusal.Line))

-- the fault is one of writing, with some cause
abbrev pub IsOfWriter : ServeFault → Type 0
IsOfWriter fault = (cause : WriteFault) × (fault ≡ serve_fault.Write cause)

-- after a fault of memory or of a read, no reply is left to write; after one of a write, some of one is
abbrev pub Leaves : ServeFault → List ℕ → Type 0
Leaves (serve_fault.Read cause) unwritten = unwritten ≡ []
Leaves (serve_fault.Write cause) unwritten = 0 < length unwritten
Leaves serve_fault.Memory unwritten = unwritten ≡ []
