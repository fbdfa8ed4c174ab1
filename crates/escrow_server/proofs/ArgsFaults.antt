-- Words have at most one fault, since the command has no subcommands.
use Rattle.std.proofs.Common.{◌&&◌, ◌||◌, ◌==◌, not, Bool, true, false, ℕ, zero, suc, Option, Some, None, List, [], ◌∷◌, length, is_some, if◌then◌else◌}
use Rattle.std.specs.Prelude.{⊤, slice_get, drop, encode_utf8, nat_lt}
use Rattle.std.specs.Str.{bytes_eq, chars}
use Rattle.std.specs.Option.{option_map_or}
use Rattle.clap.specs.Lexer.{long_of, short_of}
use Rattle.clap.specs.Facts.{parser_of_value, unwrap_or_range}
use Rattle.clap.specs.Walk.{Held, Row, Rule, Step, next, trailing, subcommand, value, Text, Waiting, idle, option, positional, Walk, action_of, arg_by_id, arg_by_index, arg_by_long, arg_by_short, attached_value, has_row, is_empty, is_pending, most_values, nothing_held, reacted, settled, takes_several, takes_values, values_or_missing, walk, walk_from, walked, with_default, word_met}
use Rattle.clap.specs.Simple.{Shape, argument_words, built, entered}
use Rattle.clap.specs.ValueTests.{accepts}
use Rattle.clap.specs.Values.{refused_kind}
use Rattle.clap.specs.Kinds.{Kinds, check_kinds, or_else, range_kinds, request_kinds, value_kinds, values_kinds}
use Rattle.clap.specs.Faults.{action_fault, bundle_step_fault, count_fault, default_fault, defaults_fault, entered_fault, flag_word_fault, flags_fault, level_fault, long_fault, option_fault, other_fault, positional_fault, react_fault, repeat_fault, set_fault, settle_fault, short_fault, step_fault, stray_fault, turn_fault, use_fault, values_fault, walk_fault, word_fault}
use Rattle.clap.specs.declared.builder.action.ArgAction.{ArgAction}
use Rattle.clap.specs.declared.builder.action.ArgAction.TheVariants.{Set, Append, SetTrue, SetFalse, Count, Help, HelpShort, HelpLong, Version}
use Rattle.clap.specs.declared.builder.value_parser.ValueParser.{ValueParser}
use Rattle.clap.specs.declared.error.kind.ErrorKind.TheVariants as kind
use Rattle.escrow_server.specs.Args.{app, faults_of}

-- no kind, or one
abbrev pub IsOne : Kinds → Type 0
IsOne [] = ⊤
IsOne (k ∷ []) = ⊤
IsOne (k ∷ l ∷ kinds) = ⊥

or_one : (a b : Kinds) → IsOne a → IsOne b → IsOne (or_else a b)
or_one [] b one next_one = next_one
or_one (k ∷ ks) b one next_one = one

if_one : (b : Bool) (x y : Kinds) → IsOne x → IsOne y → IsOne (if b then x else y)
if_one true x y one other = one
if_one false x y one other = other

map_one : {X : Type 0} (o : Option X) (f : X → Kinds) (d : Kinds) → ((x : X) → IsOne (f x)) → IsOne d → IsOne (option_map_or f o d)
map_one None f d each one = one
map_one (Some x) f d each one = each x

value_one : (ignore_case : Bool) (parser : ValueParser) (text : Text) → IsOne (value_kinds ignore_case parser text)
value_one ignore_case parser text = if_one (accepts ignore_case parser text) [] (refused_kind parser ∷ []) tt tt

values_one : (ignore_case : Bool) (parser : ValueParser) (texts : List Text) → IsOne (values_kinds ignore_case parser texts)
values_one ignore_case parser [] = tt
values_one ignore_case parser (v ∷ vs) = or_one _ _ (value_one ignore_case parser v) (values_one ignore_case parser vs)

range_one : (least most n : ℕ) → IsOne (range_kinds least most n)
range_one least most n =
    if_one (nat_lt 0 least && n == 0) _ _ tt (if_one (least == most) _ _ (if_one (least == n) _ _ tt tt)
    (if_one (nat_lt n least) _ _ tt (if_one (nat_lt most n) _ _ tt tt)))

request_one : (x : ArgAction) → IsOne (request_kinds x)
request_one Set = tt
request_one Append = tt
request_one SetTrue = tt
request_one SetFalse = tt
request_one Count = tt
request_one Help = tt
request_one HelpShort = tt
request_one HelpLong = tt
request_one Version = tt

rule_values_one : (a : Rule) (values : List Text) → IsOne (values_fault a values)
rule_values_one a values = values_one a.ignore_case (parser_of_value a.parser) values

set_one : (again : Bool) (a : Rule) (values : List Text) (rows : List Row) → IsOne (set_fault again a values rows)
set_one again a values rows = or_one (repeat_fault again a.id rows) _ (if_one (has_row a.id rows && not again) (kind.ArgumentConflict ∷ []) [] tt tt) (rule_values_one a values)

count_one : (a : Rule) (values : List Text) (rows : List Row) → IsOne (count_fault a values rows)
count_one a [] rows = value_one a.ignore_case (parser_of_value a.parser) _
count_one a (v ∷ vs) rows = rule_values_one a (v ∷ vs)

action_one : (x : ArgAction) (again : Bool) (a : Rule) (values : List Text) (rows : List Row) → IsOne (action_fault x again a values rows)
action_one Set again a values rows = set_one again a values rows
action_one SetTrue again a values rows = set_one again a values rows
action_one SetFalse again a values rows = set_one again a values rows
action_one Append again a values rows = rule_values_one a values
action_one Count again a values rows = count_one a values rows
action_one Help again a values rows = tt
action_one HelpShort again a values rows = tt
action_one HelpLong again a values rows = tt
action_one Version again a values rows = tt

use_one : (again : Bool) (a : Rule) (values : List Text) (rows : List Row) → IsOne (use_fault again a values rows)
use_one again a values rows =
    or_one _ _ (range_one (unwrap_or_range a.range).start_inclusive (most_values a) (length values))
    (action_one (action_of a) again a (values_or_missing a values) rows)

settle_one : (c : List Rule) (again : Bool) (h : Held) → IsOne (settle_fault c again h)
settle_one c again h = map_one h.pending _ [] (λ p. map_one (arg_by_id c p.0) _ [] (λ a. use_one again a p.1 h.rows) tt) tt

react_one : (c : List Rule) (again : Bool) (a : Rule) (values : List Text) (h : Held) → IsOne (react_fault c again a values h)
react_one c again a values h = or_one _ _ (settle_one c again h) (use_one again a values (settled c h).rows)

option_one : (c : List Rule) (again : Bool) (a : Rule) (v : Option Text) (h : Held) → IsOne (option_fault c again a v h)
option_one c again a (Some v) h = react_one c again a (v ∷ []) h
option_one c again a None h = settle_one c again h

long_one : (c : List Rule) (again : Bool) (o : Option Rule) (v : Option Text) (h : Held) → IsOne (long_fault c again o v h)
long_one c again None v h = tt
long_one c again (Some a) v h =
    if_one (takes_values a) _ _ (option_one c again a v h) (if_one (is_some v) _ _ tt (react_one c again a [] h))

short_one : (c : List Rule) (again : Bool) (o : Option Rule) (rest : Text) (h : Held) (after : Held → Kinds) → ((g : Held) → IsOne (after g))
    → IsOne (short_fault c again o rest h after)
short_one c again None rest h after each = tt
short_one c again (Some a) rest h after each =
    if_one (takes_values a) _ _ (option_one c again a (attached_value rest) h) (or_one _ _ (react_one c again a [] h) (each (reacted c a [] h)))

bundle_step_one : (c : List Rule) (again : Bool) (o : Option ℕ) (flags : Text) (skip : ℕ) (h : Held) (after : Text → ℕ → Held → Kinds)
    → ((t : Text) (n : ℕ) (g : Held) → IsOne (after t n g)) → IsOne (bundle_step_fault c again o flags skip h after)
bundle_step_one c again None flags skip h after each = tt
bundle_step_one c again (Some x) flags zero h after each =
    short_one c again (arg_by_short c x) (drop (length (encode_utf8 x)) flags) h (after (drop (length (encode_utf8 x)) flags) 0)
    (each (drop (length (encode_utf8 x)) flags) 0)
bundle_step_one c again (Some x) flags (suc skip) h after each = each (drop (length (encode_utf8 x)) flags) skip h

flags_one : (c : List Rule) (again : Bool) (k : ℕ) (flags : Text) (skip : ℕ) (h : Held) → IsOne (flags_fault c again k flags skip h)
unfolding flags_fault
flags_one c again zero flags skip h = tt
flags_one c again (suc k) flags skip h =
    bundle_step_one c again (slice_get (chars flags) 0) flags skip h (flags_fault c again k) (flags_one c again k)

flag_word_one : (c : List Rule) (again : Bool) (o : Option (Text × Option Text)) (word : Text) (h : Held) → IsOne (flag_word_fault c again o word h)
flag_word_one c again (Some p) word h = long_one c again (arg_by_long c p.0) p.1 h
flag_word_one c again None word h =
    map_one (short_of word) _ [] (λ flags. flags_one c again (length flags) flags h.skip (record h { skip = 0 })) tt

other_one : (s : Shape) (word : Text) (h : Held) → IsOne (other_fault s None word h)
other_one s word h = if_one (bytes_eq word (45 ∷ 45 ∷ [])) _ _ tt (flag_word_one s.rules s.args_override_self (long_of word) word h)

word_one : (s : Shape) (is_trailing : Bool) (waiting : Waiting) (word : Text) (h : Held) → IsOne (word_fault s [] is_trailing waiting word h)
word_one s is_trailing idle word h = if_one is_trailing _ _ tt (other_one s word h)
word_one s is_trailing (option id) word h = if_one is_trailing _ _ tt (other_one s word h)
word_one s is_trailing positional word h = if_one is_trailing _ _ tt (other_one s word h)

positional_one : (c : List Rule) (again : Bool) (a : Rule) (h : Held) → IsOne (positional_fault c again a h)
positional_one c again a h = if_one (is_pending a h.pending && takes_several a) _ _ tt (settle_one c again h)

step_one : (s : Shape) (position : ℕ) (h : Held) (step : Step) → IsOne (stray_fault s) → IsOne (step_fault s position h step)
step_one s position h value stray = map_one (arg_by_index s.rules position) _ _ (λ a. positional_one s.rules s.args_override_self a h) stray
step_one s position h (next waiting) stray = tt
step_one s position h (trailing at) stray = tt
step_one s position h (subcommand name) stray = tt

turn_one : (s : Shape) (w : Walk) (word : Text) → IsOne (stray_fault s) → IsOne (turn_fault s [] w word)
turn_one s w word stray =
    let met = word_met s.rules [] w.is_trailing w.waiting w.position word w.held in
    if_one (is_some w.stopped) _ _ tt (or_one _ _ (word_one s w.is_trailing w.waiting word w.held) (step_one s w.position met.0 met.1 stray))

walk_one : (s : Shape) (w : Walk) (words : List Text) → IsOne (stray_fault s) → IsOne (walk_fault s [] w words)
unfolding walk_fault
walk_one s w [] stray = tt
walk_one s w (word ∷ rest) stray = or_one _ _ (turn_one s w word stray) (walk_one s (walked s.rules [] w word) rest stray)

default_one : (rows : List Row) (a : Rule) → IsOne (default_fault rows a)
default_one rows a = if_one (has_row a.id rows || is_empty a.defaults) [] _ tt (or_one _ _ (request_one (action_of a)) (rule_values_one a a.defaults))

defaults_one : (rows : List Row) (rules : List Rule) → IsOne (defaults_fault rows rules)
unfolding defaults_fault
defaults_one rows [] = tt
defaults_one rows (a ∷ rest) = or_one _ _ (default_one rows a) (defaults_one (with_default rows a) rest)

check_one : (help sub arg : Bool) → IsOne (check_kinds help sub arg)
check_one help sub arg = if_one help _ _ tt (if_one sub _ _ tt (if_one arg _ _ tt tt))

level_one : (s : Shape) (h : Held) (words : List Text) (has_subcommand : Bool) (under : Kinds) → IsOne (stray_fault s) → IsOne under
    → IsOne (level_fault s [] h words has_subcommand under)
level_one s h words has_subcommand under stray one =
    let end = (walk s.rules [] h words).held in
    or_one _ _ (walk_one s (walk_from h) words stray) (or_one _ _ one (or_one _ _ (settle_one s.rules s.args_override_self end)
    (or_one _ _ (defaults_one (settled s.rules end).rows s.rules) (check_one _ _ _))))

under_one : (stop : Option (Text × List Text)) → IsOne (entered_fault (built app) stop)
under_one None = tt
under_one (Some p) = tt

pub one_fault : (words : List Text) → IsOne (faults_of words)
one_fault words =
    let given = argument_words app words in
    let stop = (walk (built app).top.rules [] nothing_held given).stopped in
    level_one (built app).top nothing_held given (is_some (entered (built app) stop)) (entered_fault (built app) stop) tt (under_one stop)
