-- Phases, read and served one after another.
use Rattle.std.proofs.Common.{◌≡◌, ℕ, ◌+◌, ◌*◌, ◌≤◌, Bool, true, false, Option, Some, None, List, [], ◌∷◌, ◌++◌, length, take, refl, sym, ap, subst, ◌∙◌, append_assoc}
use Rattle.std.specs.Prelude.{IfSome}
use Rattle.std.specs.Io.KnownBytes.{Appends, IsAtEnd}
use Rattle.std.proofs.lemmas.List.{append-nil, take_all}
use Rattle.escrow_num.specs.declared.session.TheConstants.Session.{MAX_SHARED}
use Rattle.escrow_script.specs.declared.limits.TheConstants.{MAX_LINE, MAX_SCRIPT}
use Rattle.escrow_script.specs.Line.{lines_of}
use Rattle.escrow_script.specs.Script.{TakesLine, Spends, left}
use Rattle.escrow_script.proofs.TakenLemmas.{kept_line, within_limit}
use Rattle.escrow_script.proofs.WrittenLemmas.{appends_more, appends_none}
use Rattle.escrow_free.specs.Adding.{Adds}
use Rattle.escrow_stats.specs.declared.tally.Tally.{Tally}
use Rattle.escrow_free.specs.Outboxes.{Fits, AreServed, AreTotals}
use Rattle.escrow_free.specs.FreeOutput.{Taken, DoLines}
use Rattle.escrow_free.specs.Phases.{TakesLines, IsRead, IsOver, IsServed}
use Rattle.escrow_free.specs.Planning.{PlansBytes, Plans}
use Rattle.escrow_free.specs.Printing.{PrintsTo}
use Rattle.escrow_free.specs.declared.outbox.Outbox.{Outbox}
use Rattle.escrow_free.specs.declared.plan.Plan.{Plan}
use Rattle.escrow_free.proofs.Outboxes.{fits_served}
use Rattle.escrow_free.proofs.Planning.{plans_one, plans_match, lines_do, do_more}
use Rattle.escrow_free.proofs.Prints.{all_printed}

-- LINES

pub read_none : (bytes : Option (List ℕ)) → TakesLines [] bytes bytes
read_none None = tt
read_none (Some bytes) = refl

pub read_more : (lines more : List (List ℕ)) (bytes mid rest : Option (List ℕ)) → TakesLines lines bytes mid → TakesLines more mid rest → TakesLines (lines ++ more) bytes rest
read_more lines more None mid rest first second = tt
read_more lines more (Some bytes) None rest first second = absurd first
read_more lines more (Some bytes) (Some mid) None first second = absurd second
read_more lines more (Some bytes) (Some mid) (Some rest) first second = first ∙ ap (λ (ls : List (List ℕ)). lines ++ ls) second ∙ sym (append_assoc lines more (lines_of rest))

-- the next line, with as many of its bytes as are kept
record Next (bytes rest : Option (List ℕ)) (kept : List ℕ) : Type 0 where
  line : List ℕ
  is_kept : kept ≡ take (MAX_LINE + 1) line
  read : TakesLines (line ∷ []) bytes rest

next_line : (bytes rest : Option (List ℕ)) (kept : List ℕ) → length kept ≤ MAX_LINE + 1 → TakesLine true bytes rest kept → Next bytes rest kept
next_line None rest kept short taken = record { line = kept; is_kept = sym (take_all (MAX_LINE + 1) kept short); read = tt }
next_line (Some bytes) None kept short taken = absurd taken
next_line (Some bytes) (Some rest) kept short taken = record { line = taken.0; is_kept = taken.2; read = taken.1 }

-- at the end, nothing remains
pub over_none : (found : Bool) (bytes rest : Option (List ℕ)) (kept : List ℕ) → found ≡ false → TakesLine found bytes rest kept → TakesLines [] bytes rest
over_none found bytes rest kept e taken = none bytes rest (subst (λ (f : Bool). TakesLine f bytes rest kept) e taken) where
  none : (b r : Option (List ℕ)) → TakesLine false b r kept → TakesLines [] b r
  none None r h = tt
  none (Some b) None h = absurd h
  none (Some b) (Some r) h = h.0 ∙ sym (ap lines_of h.1)

pub is_over : (found : Bool) (bytes mid rest : Option (List ℕ)) (lines : List (List ℕ)) (kept : List ℕ) → found ≡ false → TakesLines lines bytes mid → TakesLine found mid rest kept → IsOver bytes rest
is_over found bytes mid rest lines kept e read taken = over bytes mid rest read (subst (λ (f : Bool). TakesLine f mid rest kept) e taken) where
  over : (b m r : Option (List ℕ)) → TakesLines lines b m → TakesLine false m r kept → IsOver b r
  over None m r a t = tt
  over (Some b) None r a t = absurd a
  over (Some b) (Some m) None a t = absurd t
  over (Some b) (Some m) (Some r) a t = t.1

-- one more line is read and planned
pub read_one : (n : ℕ) (bytes mid rest : Option (List ℕ)) (kept line : List ℕ) (found : Bool) (old new : Plan) → found ≡ true → line ≡ kept → length line ≤ MAX_LINE + 1
    → TakesLine found mid rest kept → Adds n line old new → IsRead n bytes mid old → IsRead n bytes rest new
read_one n bytes mid rest kept line found old new is_found same short taken adds so_far =
    let next = next_line mid rest kept (subst (λ (k : List ℕ). length k ≤ MAX_LINE + 1) same short) (subst (λ (f : Bool). TakesLine f mid rest kept) is_found taken) in
    let step : PlansBytes n next.line adds.more_lines adds.more_items =
    (adds.plans.0, kept_line n MAX_SHARED next.line line adds.plans.0 (same ∙ next.is_kept) adds.plans.1, adds.plans.2) in
    record {
      lines = so_far.lines ++ next.line ∷ [];
      read = read_more so_far.lines (next.line ∷ []) bytes mid rest so_far.read next.read;
      plans = rw (adds.lines, adds.items) (plans_one n so_far.lines old.lines.items adds.more_lines old.items.items adds.more_items next.line so_far.plans step);
    }

-- PHASES

-- Some phases were served: their lines were read and their output was written. The outboxes and totals match what the
-- lines took.
pub record Stands (n : ℕ) (script rest old_bytes new_bytes : Option (List ℕ)) (outboxes : List Outbox) (totals : List Tally) : Type 0 where
  pub lines : List (List ℕ)
  pub out : List ℕ
  pub taken : List Taken
  pub read : TakesLines lines script rest
  pub does : DoLines n [] lines out taken
  pub appends : Appends old_bytes new_bytes out
  pub fits : Fits [] taken outboxes
  pub counts : AreTotals taken totals

pub stands_new : (n : ℕ) (script bytes : Option (List ℕ)) (unread : List ℕ) (outboxes : List Outbox) (totals : List Tally) → unread ≡ [] → Fits [] [] outboxes → AreTotals [] totals
    → Stands n script (left unread script) bytes bytes outboxes totals
stands_new n script bytes unread outboxes totals none fits counts = record {
  lines = [];
  out = [];
  taken = [];
  read = subst (λ (u : List ℕ). TakesLines [] script (left u script)) (sym none) (first script);
  does = (refl, refl);
  appends = appends_none bytes;
  fits = fits;
  counts = counts;
} where
  first : (b : Option (List ℕ)) → TakesLines [] b (left [] b)
  first None = tt
  first (Some b) = refl

-- one more phase
pub stands_more : (n : ℕ) (script mid rest old_bytes now_bytes new_bytes : Option (List ℕ)) (plan : Plan) (before served after : List Outbox) (counted totals : List Tally) (out : List ℕ)
    → IsRead n mid rest plan → AreServed before plan.items.items served → PrintsTo plan.lines.items served counted out [] after totals → Appends now_bytes new_bytes out
    → Stands n script mid old_bytes now_bytes before counted → Stands n script rest old_bytes new_bytes after totals
stands_more n script mid rest old_bytes now_bytes new_bytes plan before served after counted totals out phase serves prints wrote stood =
    let lines = plan.lines.items in
    let items = plan.items.items in
    let plans : Plans n phase.lines lines items = phase.plans in
    let fits = fits_served items stood.taken before served serves stood.fits in
    let all = all_printed lines items stood.taken served after counted totals out prints (plans_match n phase.lines lines items plans) fits stood.counts in
    record {
      lines = stood.lines ++ phase.lines;
      out = stood.out ++ out;
      taken = all.end;
      read = read_more stood.lines phase.lines script mid rest stood.read phase.read;
      does = do_more n stood.lines phase.lines [] stood.taken all.end stood.out out stood.does (lines_do n phase.lines lines items stood.taken all.end out plans all.prints);
      appends = appends_more old_bytes now_bytes new_bytes stood.out out stood.appends wrote;
      fits = all.fits;
      counts = all.counts;
    }

-- AT THE END

nothing_behind : (xs ys : List ℕ) → xs ++ ys ≡ [] → ys ≡ []
nothing_behind [] ys e = e
nothing_behind (x ∷ xs) ys e = cc

-- the whole script was read
pub at_end : (script was remaining : Option (List ℕ)) (was_unread unread : List ℕ) (limit now : ℕ) → Spends script was limit now → IsOver (left was_unread was) (left unread remaining)
    → IfSome script (λ bytes. IsAtEnd remaining)
at_end None was remaining was_unread unread limit now spends over = tt
at_end (Some bytes) None remaining was_unread unread limit now spends over = absurd spends
at_end (Some bytes) (Some rest) None was_unread unread limit now spends over = tt
at_end (Some bytes) (Some rest) (Some more) was_unread unread limit now spends over = nothing_behind unread more over

-- the whole script was served
pub finished : (n : ℕ) (script rest remaining old_bytes new_bytes : Option (List ℕ)) (outboxes : List Outbox) (totals : List Tally) (now : ℕ) → length outboxes ≡ n * MAX_SHARED → Stands n script rest old_bytes new_bytes outboxes totals
    → IsOver script rest → Spends script remaining MAX_SCRIPT now → IfSome script (λ bytes. IsAtEnd remaining)
    → IfSome script (λ bytes. IsServed n bytes outboxes old_bytes new_bytes)
finished n None rest remaining old_bytes new_bytes outboxes totals now count stood all spends ends = tt
finished n (Some bytes) None remaining old_bytes new_bytes outboxes totals now count stood all spends ends = absurd all
finished n (Some bytes) (Some rest) remaining old_bytes new_bytes outboxes totals now count stood all spends ends =
    let whole : stood.lines ≡ lines_of bytes = sym (stood.read ∙ ap (λ (r : List ℕ). stood.lines ++ lines_of r) all ∙ append-nil stood.lines) in
    record {
      limit = within_limit bytes remaining MAX_SCRIPT now spends ends;
      out = stood.out;
      taken = stood.taken;
      lines = subst (λ (ls : List (List ℕ)). DoLines n [] ls stood.out stood.taken) whole stood.does;
      count = count;
      fits = stood.fits;
      appends = stood.appends;
    }

-- the end of input for a phase is the end for the script
pub over_all : (script mid rest : Option (List ℕ)) (lines : List (List ℕ)) → TakesLines lines script mid → IsOver mid rest → IsOver script rest
over_all None mid rest lines read over = tt
over_all (Some bytes) None rest lines read over = absurd read
over_all (Some bytes) (Some mid) rest lines read over = over_some rest over where
  over_some : (r : Option (List ℕ)) → IsOver (Some mid) r → IsOver (Some bytes) r
  over_some None h = h
  over_some (Some r) h = h
