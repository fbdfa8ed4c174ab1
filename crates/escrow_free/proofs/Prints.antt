-- What planned lines print, one after another.
use Rattle.std.proofs.Common.{◌≡◌, ℕ, Option, Some, List, [], ◌∷◌, ◌++◌, slice_get, refl, sym, ap, subst, ◌∙◌, append_assoc}
use Rattle.std.specs.Io.KnownBytes.{Appends}
use Rattle.std.proofs.lemmas.List.{append-nil}
use Rattle.escrow_sql.specs.declared.fault.ParseFault.{ParseFault}
use Rattle.escrow_statement.specs.declared.statement.Request.{Request}
use Rattle.escrow_script.specs.Written.{fault_refusal, no_line_text}
use Rattle.escrow_script.proofs.WrittenLemmas.{appends_more, appends_none}
use Rattle.escrow_num.specs.Session.{IsShared}
use Rattle.escrow_stats.specs.Text.{rendered_totals}
use Rattle.escrow_stats.specs.declared.tally.Tally.{Tally}
use Rattle.escrow_script.specs.Line.{database_name}
use Rattle.escrow_free.specs.Outboxes.{outbox_of, Fits, AreTotals}
use Rattle.escrow_free.specs.FreeOutput.{Taken, refused}
use Rattle.escrow_free.specs.Printing.{Matches, Prints, PassesOn, PrintsTo}
use Rattle.escrow_free.specs.declared.outbox.Outbox.{Outbox}
use Rattle.escrow_free.specs.declared.plan.Planned.{Planned}
use Rattle.escrow_free.specs.declared.plan.Planned.TheVariants as planned

-- at first nothing is printed
pub prints_none : (plan : List Planned) (outboxes : List Outbox) (totals : List Tally) → PrintsTo plan outboxes totals [] plan outboxes totals
prints_none plan outboxes totals = λ items taken m fits counts. record { left = items; took = taken; matches = m; fits = fits; counts = counts; prints = λ back end p. p }

-- some lines, followed by more
pub prints_more : (plan mid rest : List Planned) (old now new : List Outbox) (counted so_far totals : List Tally) (out more : List ℕ)
    → PrintsTo plan old counted out mid now so_far → PrintsTo mid now so_far more rest new totals → PrintsTo plan old counted (out ++ more) rest new totals
prints_more plan mid rest old now new counted so_far totals out more first second = λ items taken m fits counts.
    let one = first items taken m fits counts in
    let two = second one.left one.took one.matches one.fits one.counts in
    record {
      left = two.left;
      took = two.took;
      matches = two.matches;
      fits = two.fits;
      counts = two.counts;
      prints = λ back end p. subst (λ (o : List ℕ). Prints taken plan items o end) (sym (append_assoc out more back)) (one.prints (more ++ back) end (two.prints back end p));
    }

-- equal lines print equal text
pub prints_as : (line same : Planned) (plan rest : List Planned) (old new : List Outbox) (counted totals : List Tally) (out text : List ℕ)
    → line ≡ same → out ≡ text → PrintsTo (same ∷ plan) old counted text rest new totals → PrintsTo (line ∷ plan) old counted out rest new totals
prints_as line same plan rest old new counted totals out text is e prints =
    subst (λ (l : Planned). PrintsTo (l ∷ plan) old counted out rest new totals) (sym is) (subst (λ (o : List ℕ). PrintsTo (same ∷ plan) old counted o rest new totals) (sym e) prints)

pub no_line_prints : (plan : List Planned) (outboxes : List Outbox) (totals : List Tally) → PrintsTo (planned.NoLine ∷ plan) outboxes totals no_line_text plan outboxes totals
no_line_prints plan outboxes totals = λ items taken m fits counts.
    record { left = items; took = taken; matches = m; fits = fits; counts = counts; prints = λ back end p. (back, p, refl) }

pub refused_prints : (place session : ℕ) (f : ParseFault) (plan : List Planned) (outboxes : List Outbox) (totals : List Tally)
    → PrintsTo (planned.Refused place session f ∷ plan) outboxes totals (refused place session (fault_refusal f)) plan outboxes totals
refused_prints place session f plan outboxes totals = λ items taken m fits counts.
    record { left = items; took = taken; matches = m; fits = fits; counts = counts; prints = λ back end p. (back, p, refl) }

pub totals_print : (place session : ℕ) (tally : Tally) (plan : List Planned) (outboxes : List Outbox) (totals : List Tally)
    → IsShared session → slice_get totals (outbox_of place session) ≡ Some tally
    → PrintsTo (planned.Totals place session ∷ plan) outboxes totals (rendered_totals (database_name place) session tally) plan outboxes totals
totals_print place session tally plan outboxes totals is at = λ items taken m fits counts.
    record {
      left = items;
      took = taken;
      matches = m;
      fits = fits;
      counts = counts;
      prints = λ back end p. (back, p, ap (λ (t : Tally). rendered_totals (database_name place) session t ++ back) (counts place session tally is at));
    }

-- all lines
pub record AllPrinted (taken : List Taken) (plan : List Planned) (items : List (ℕ × Request)) (out : List ℕ) (new : List Outbox) (totals : List Tally) : Type 0 where
  pub end : List Taken
  pub prints : Prints taken plan items out end
  pub fits : Fits [] end new
  pub counts : AreTotals end totals

pub all_printed : (plan : List Planned) (items : List (ℕ × Request)) (taken : List Taken) (old new : List Outbox) (counted totals : List Tally) (out : List ℕ)
    → PrintsTo plan old counted out [] new totals → Matches plan items → Fits items taken old → AreTotals taken counted → AllPrinted taken plan items out new totals
all_printed plan items taken old new counted totals out to m fits counts =
    let all = to items taken m fits counts in
    record {
      end = all.took;
      prints = subst (λ (o : List ℕ). Prints taken plan items o all.took) (append-nil out) (all.prints [] all.took (refl, refl));
      fits = subst (λ (l : List (ℕ × Request)). Fits l all.took new) all.matches all.fits;
      counts = all.counts;
    }

-- WHAT IS BUFFERED

-- Some lines were printed; their output was written, except for what is buffered.
pub record Printed (plan : List Planned) (old : List Outbox) (counted : List Tally) (rest : List Planned) (new : List Outbox) (totals : List Tally) (old_bytes new_bytes : Option (List ℕ)) (gathered : List ℕ) : Type 0 where
  pub written : List ℕ
  pub appends : Appends old_bytes new_bytes written
  pub prints : PrintsTo plan old counted (written ++ gathered) rest new totals

pub printed_none : (plan : List Planned) (outboxes : List Outbox) (totals : List Tally) (bytes : Option (List ℕ)) (gathered : List ℕ) → gathered ≡ []
    → Printed plan outboxes totals plan outboxes totals bytes bytes gathered
printed_none plan outboxes totals bytes gathered none = record {
  written = [];
  appends = appends_none bytes;
  prints = subst (λ (o : List ℕ). PrintsTo plan outboxes totals o plan outboxes totals) (sym none) (prints_none plan outboxes totals);
}

pub printed_more : (plan : List Planned) (line : Planned) (rest : List Planned) (old now new : List Outbox) (counted so_far totals : List Tally) (old_bytes now_bytes new_bytes : Option (List ℕ)) (gathered reply left : List ℕ)
    → PrintsTo (line ∷ rest) now so_far reply rest new totals → PassesOn now_bytes new_bytes (gathered ++ reply) left
    → Printed plan old counted (line ∷ rest) now so_far old_bytes now_bytes gathered → Printed plan old counted rest new totals old_bytes new_bytes left
printed_more plan line rest old now new counted so_far totals old_bytes now_bytes new_bytes gathered reply left here passes before =
    let all : (before.written ++ gathered) ++ reply ≡ (before.written ++ passes.0) ++ left =
    append_assoc before.written gathered reply ∙ ap (λ (o : List ℕ). before.written ++ o) passes.2 ∙ sym (append_assoc before.written passes.0 left) in
    record {
      written = before.written ++ passes.0;
      appends = appends_more old_bytes now_bytes new_bytes before.written passes.0 before.appends passes.1;
      prints =
          subst (λ (o : List ℕ). PrintsTo plan old counted o rest new totals) all
          (prints_more plan (line ∷ rest) rest old now new counted so_far totals (before.written ++ gathered) reply before.prints here);
    }

pub printed_all : (plan : List Planned) (old new : List Outbox) (counted totals : List Tally) (rest : List Planned) (old_bytes now_bytes new_bytes : Option (List ℕ)) (gathered : List ℕ) → rest ≡ []
    → Printed plan old counted rest new totals old_bytes now_bytes gathered → Appends now_bytes new_bytes gathered
    → (out : List ℕ) × Appends old_bytes new_bytes out × PrintsTo plan old counted out [] new totals
printed_all plan old new counted totals rest old_bytes now_bytes new_bytes gathered none before wrote = (
  before.written ++ gathered,
  appends_more old_bytes now_bytes new_bytes before.written gathered before.appends wrote,
  subst (λ (r : List Planned). PrintsTo plan old counted (before.written ++ gathered) r new totals) none before.prints,
)
