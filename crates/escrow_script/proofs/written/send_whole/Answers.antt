use Rattle.std.proofs.Common.{◌≡◌, ℕ, ◌+◌, List, length, take, drop, sym, ap, subst, ◌∙◌, arith}
use Rattle.std.specs.Io.KnownBytes.{Appends}
use Rattle.std.proofs.Math.Seq.{take-add}
use Rattle.std.proofs.lemmas.List.{take_rest, drop-drop, length-drop}
use Rattle.escrow_script.proofs.WrittenLemmas.{appends_more}
use Rattle.escrow_script.proofs.written.send_whole.Goals as goal

pub loop-rest-preserved : goal.loop-rest-preserved
loop-rest-preserved g c =
    let sent = g.C.Client.sent in
    let so_far = c.loop-rest.invariant.so_far in
    let n = c.in-Ok.count in
    let bytes = c.args.bytes.now in
    let wrote = c.in-Ok.ensures in
    let rest : drop n c.loop-rest.rest.now ≡ drop (so_far.0 + n) bytes = ap (drop n) so_far.2 ∙ drop-drop n so_far.0 bytes in
    let now = subst (λ (r : List ℕ). Appends (sent c.loop-rest.client) (sent c.write.new.self) (take n r)) so_far.2 wrote.appended in
    let both = appends_more _ _ _ (take so_far.0 bytes) (take n (drop so_far.0 bytes)) so_far.3 now in
    record {
      so_far = (
        so_far.0 + n,
        omega (arith, wrote.bound, ap length so_far.2, length-drop so_far.0 bytes, so_far.1),
        take_rest c.loop-rest.rest.now n ∙ rest,
        subst (λ (b : List ℕ). Appends (sent c.args.client.now) (sent c.write.new.self) b) (sym (take-add so_far.0 n bytes)) both,
      );
      unread = c.write.ensures.unread ∙ c.loop-rest.invariant.unread;
      received = c.write.ensures.heard ∙ c.loop-rest.invariant.received;
    }
