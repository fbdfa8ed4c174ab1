use Rattle.std.proofs.Common.{◌≡◌, ℕ, Result, Ok, Err, List, ◌++◌, ◌∷◌, [], ◌+◌, arith, subst, ap, ◌∙◌}
use Rattle.escrow_sql.specs.Lexeme.{piece_of_scan}
use Rattle.escrow_sql.specs.Lex.{IsLexed}
use Rattle.escrow_sql.specs.Scan.{IsWithin}
use Rattle.escrow_sql.specs.declared.token.Token.{Token}
use Rattle.escrow_sql.proofs.Pieces.{is_lexed, lexed_once}
use Rattle.escrow_sql.proofs.Slices.{slices_at_end}
use Rattle.escrow_sql.proofs.TokenLemmas.{after-blank, after-one, whole_at_end, spans_at_end, fault_met}
use Rattle.escrow_sql.proofs.lexer.lexemes.Goals as goal

pub loop-at-preserved-in-Blank : goal.loop-at-preserved-in-Blank
loop-at-preserved-in-Blank c =
    let is = ap piece_of_scan c.in-Blank.is in
    let w = subst (IsWithin _) is c.piece_at.ensures.within in
    record {
      within = omega (arith, w);
      short = c.loop-at.invariant.short;
      same = after-blank c.loop-at.lexemes c.args.text.now c.loop-at.at c.in-Blank.len _ _ (omega arith) w.0 is c.piece_at.ensures.value c.loop-at.invariant.same;
    }

pub loop-at-preserved : goal.loop-at-preserved
loop-at-preserved c =
    let is = ap piece_of_scan c.in-Lexeme.is in
    let w = subst (IsWithin _) is c.piece_at.ensures.within in
    let grown : c.push.new.self ≡ c.loop-at.lexemes ++ record { kind = c.in-Lexeme.sort; start = c.loop-at.at; end = c.loop-at.at + c.in-Lexeme.len } ∷ [] =
    c.in_ok-push-in-Lexeme.ensures.ok ∙ ap (λ (t : Token). c.loop-at.lexemes ++ t ∷ []) c.new.ensures in
    record {
      within = omega (arith, w);
      short = c.loop-at.invariant.short;
      same = rw grown (after-one c.loop-at.lexemes c.args.text.now c.loop-at.at c.in-Lexeme.len c.in-Lexeme.sort _ _ (omega arith) w.0 is c.piece_at.ensures.value c.loop-at.invariant.same);
    }

pub returns-clause-spans : goal.returns-clause-spans
returns-clause-spans c = spans_at_end c.loop-at.lexemes c.args.text.now c.loop-at.at (omega arith) c.loop-at.invariant.same

pub returns-clause-slices : goal.returns-clause-slices
returns-clause-slices c = slices_at_end c.loop-at.lexemes c.args.text.now c.loop-at.at c.loop-at.invariant.short (omega arith) c.loop-at.invariant.same

pub returns-in-Fault-clause-fault : goal.returns-in-Fault-clause-fault
returns-in-Fault-clause-fault c =
    is_lexed c.args.text.now (Err (c.loop-at.at + c.in-Fault.place + 1)) c.loop-at.invariant.short
    (fault_met c.loop-at.lexemes c.args.text.now c.loop-at.at c.in-Fault.place _ (omega arith) (ap piece_of_scan c.in-Fault.is) c.piece_at.ensures.value c.loop-at.invariant.same)

pub returns-in-Fault-clause-only : goal.returns-in-Fault-clause-only
returns-in-Fault-clause-only c = λ tokens h.
    let fault : IsLexed c.args.text.now (Err (c.loop-at.at + c.in-Fault.place + 1)) = is_lexed c.args.text.now (Err (c.loop-at.at + c.in-Fault.place + 1)) c.loop-at.invariant.short
    (fault_met c.loop-at.lexemes c.args.text.now c.loop-at.at c.in-Fault.place _ (omega arith) (ap piece_of_scan c.in-Fault.is) c.piece_at.ensures.value c.loop-at.invariant.same) in
    let both : ◌≡◌ {A = Result (List Token) ℕ} (Err (c.loop-at.at + c.in-Fault.place + 1)) (Ok tokens) = lexed_once c.args.text.now _ _ fault h in
    absurd (cc)

pub returns-clause-found : goal.returns-clause-found
returns-clause-found c =
    is_lexed c.args.text.now (Ok c.loop-at.lexemes) c.loop-at.invariant.short (whole_at_end c.loop-at.lexemes c.args.text.now c.loop-at.at (omega arith) c.loop-at.invariant.same)

pub returns-clause-only : goal.returns-clause-only
returns-clause-only c = λ tokens h.
    let found : IsLexed c.args.text.now (Ok c.loop-at.lexemes) =
    is_lexed c.args.text.now (Ok c.loop-at.lexemes) c.loop-at.invariant.short (whole_at_end c.loop-at.lexemes c.args.text.now c.loop-at.at (omega arith) c.loop-at.invariant.same) in
    let both : ◌≡◌ {A = Result (List Token) ℕ} (Ok c.loop-at.lexemes) (Ok tokens) = lexed_once c.args.text.now _ _ found h in
    cc
