-- Believed: what the words of a command line ask for, by clap's definition of a simple command.
use Rattle.std.specs.Prelude.{◌&&◌, ◌==◌, ◌^◌, ℕ, Option, Some, None, option_map, option_and_then, List, [], ◌∷◌, length, true, bytes_eq, codes, nat_le, nat_lt, if◌then◌else◌}
use Rattle.std.specs.Char.{digit_value}
use Rattle.std.specs.List.{list_all}
use Rattle.std.specs.Str.Parse.{digits_value, without_leading_plus}
use Rattle.clap.specs.Walk.{Row, Rule, Text, byte_or_zero, first_of, is_empty}
use Rattle.clap.specs.Simple.{App, matches_of, new_app, new_rule, on_top, with_rule}
use Rattle.clap.specs.Kinds.{Kinds}
use Rattle.clap.specs.Faults.{fault_of}
use Rattle.clap.specs.declared.builder.action.ArgAction.TheVariants.{Set}
use Rattle.clap.specs.declared.error.kind.ErrorKind.{ErrorKind}
use Rattle.clap.specs.declared.error.kind.ErrorKind.TheVariants as kind
use Rattle.escrow_server.specs.declared.args.ArgFault.{ArgFault}
use Rattle.escrow_server.specs.declared.args.Args.{Args}
use Rattle.escrow_server.specs.declared.args.Mode.{Mode}
use Rattle.escrow_server.specs.declared.args.Mode.TheVariants as mode
use Rattle.escrow_num.specs.declared.session.TheConstants.Session.{MAX_SHARED}
use Rattle.escrow_script.specs.declared.limits.TheConstants.{MAX_DATABASES}

-- THE COMMAND LINE, in clap's definitions

-- a required word: the mode
abbrev pub mode_rule : Rule
mode_rule = record (new_rule (codes "mode")) { required = true; action = Some Set; value_names = 1 }

-- an option that may be left out: `--store PATH`
abbrev pub store_rule : Rule
store_rule = record (new_rule (codes "store")) { long = Some (codes "store"); action = Some Set; value_names = 1 }

-- an option that may be left out: `--databases N`
abbrev pub databases_rule : Rule
databases_rule =
    record (new_rule (codes "databases")) { long = Some (codes "databases"); action = Some Set; value_names = 1 }

-- an option that may be left out: `--sessions N`
abbrev pub sessions_rule : Rule
sessions_rule =
    record (new_rule (codes "sessions")) { long = Some (codes "sessions"); action = Some Set; value_names = 1 }

-- a command that has a version
abbrev pub with_version : App → App
with_version a = on_top (λ s. record s { has_version = true }) a

-- the command with these four, to which clap adds `--help` and `--version`
abbrev pub app : App
app =
    with_rule (with_rule (with_rule (with_rule (with_version (new_app (codes "escrowd"))) mode_rule) store_rule)
    databases_rule) sessions_rule

-- what is wrong with words before their values are read, or that they ask for help or the version: nothing, or
-- one kind of error
abbrev pub faults_of : List Text → Kinds
faults_of words = fault_of app words

-- WHAT WORDS ASK FOR

-- the mode with a name
abbrev pub mode_of : Option Text → Option Mode
mode_of None = None
mode_of (Some name) =
    if bytes_eq name (codes "run") then Some mode.Run
    else if bytes_eq name (codes "free") then Some mode.Free
    else if bytes_eq name (codes "serve") then Some mode.Serve else None

-- a number of databases, from 1 to 16
abbrev pub allowed : ℕ → Option ℕ
allowed count = if nat_le 1 count && nat_le count MAX_DATABASES then Some count else None

-- how many databases a value asks for, or 1 if there is no value. A value is read as Rust reads a `u8`, possibly with a
-- plus or leading zeros, so `+3` and `00000016` ask for 3 and 16
abbrev pub databases_of : Option Text → Option ℕ
databases_of None = Some 1
databases_of (Some value) = allowed (byte_or_zero value)

-- a number in a text, as Rust reads a `u16`, or 0 if the text has none
abbrev pub number_or_zero : Text → ℕ
number_or_zero text =
    let digits = without_leading_plus text in
    if nat_lt 0 (length digits) && list_all
    (λ d. nat_lt (digit_value d) 10) digits && nat_lt (digits_value 10 digits) (2 ^ 16) then digits_value 10 digits
    else 0

-- a number of sessions, from 1 on
abbrev pub some_sessions : ℕ → Option ℕ
some_sessions count = if count == 0 then None else Some count

-- how many sessions a value asks for, or 64 if there is no value. Only `serve` may have one. A value is read as Rust
-- reads a `u16`, possibly with a plus or leading zeros
abbrev pub sessions_of : Mode → Option Text → Option ℕ
sessions_of asked None = Some MAX_SHARED
sessions_of mode.Serve (Some value) = some_sessions (number_or_zero value)
sessions_of mode.Run (Some value) = None
sessions_of mode.Free (Some value) = None

-- the arguments of the values, if the mode and both numbers can be read; the path is any text, or there is none
abbrev pub values_ask : List Row → Option Args
values_ask rows =
    option_and_then (λ asked. option_and_then (λ count.
    option_map (λ sessions. record
    { mode = asked; path = first_of (codes "store") rows; databases = count; sessions = sessions })
    (sessions_of asked (first_of (codes "sessions") rows)))
    (databases_of (first_of (codes "databases") rows)))
    (mode_of (first_of (codes "mode") rows))

-- WHAT WORDS ASK FOR, beginning with the program's name: the arguments of their values, if nothing else is wrong with
-- them
abbrev pub asked_by : List Text → Option Args
asked_by words = if is_empty (faults_of words) then values_ask (matches_of app words) else None

-- THE EXIT STATUS

-- the fault of refused memory, which has no text
abbrev pub no_memory : ArgFault
no_memory = record { status = 1; text = [] }

-- for a kind of error: 0 for help and the version, 1 if memory is refused, 2 for a mistake
abbrev pub status_of : ErrorKind → ℕ
status_of kind.DisplayHelp = 0
status_of kind.DisplayVersion = 0
status_of kind.OutOfMemory = 1
status_of _ = 2

-- for what is wrong with words before their values are read: the status of the kind of error, or 2 if there is none
abbrev pub status_at : Kinds → ℕ
status_at [] = 2
status_at (k ∷ kinds) = status_of k

-- for words that ask for nothing valid: the status of what is wrong with them, or 2 if only a value can't be read
abbrev pub refused_status : List Text → ℕ
refused_status words = status_at (faults_of words)
