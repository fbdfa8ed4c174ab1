use Rattle.std.proofs.Common.{inl, inr}
use Rattle.std.proofs.lemmas.Bool.{not-true}
use Rattle.escrow_rows.proofs.RowsRead.{past}
use Rattle.escrow_rows.proofs.reader.RowReaderSink.is_done.Goals as goal

pub returns-then-self : goal.returns-then-self
returns-then-self g c = λ _ first cells more taken. past g.T.RowTaker.has_taken g.T.RowTaker.is_enough first c.args.self.now cells more taken (inl c.if-self.true)

pub returns-else-self : goal.returns-else-self
returns-else-self g c = λ over first cells more taken. past g.T.RowTaker.has_taken g.T.RowTaker.is_enough first c.args.self.now cells more taken (inr (not-true c.args.self.now.fits over))
