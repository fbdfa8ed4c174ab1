use Rattle.std.proofs.Common.{◌≡◌, ◌≤◌, ◌++◌, length, drop}
use Rattle.escrow_transcript.specs.Legal.{AreNumbered}
use Rattle.escrow_stats.specs.Watching.{IsPrefix}
use Rattle.escrow_shards.specs.Shown.{doubts_of}
use Rattle.escrow_shards.proofs.watched.show_all.Given as goal

abbrev pub invariant-loop-entry : goal.invariant-loop-entry
invariant-loop-entry g l =
    let rest = drop l.entry-index l.entries in
    record {
      base : l.board.base ≡ l.initial.board.base;
      entries : l.board.entries ++ rest ≡ l.initial.board.entries ++ l.entries;
      numbered : AreNumbered (length l.board.entries) rest;
      begins : IsPrefix l.board.shown l.board.entries;
      fewer : l.board.doubts ≤ doubts_of g.S.Store l.audited.store;
    }
