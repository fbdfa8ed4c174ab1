use Rattle.escrow_accounts.proofs.Replies.{replies_tell_the_book}
use Rattle.escrow_accounts.proofs.laws.replies_tell_the_book.Goals as goal

pub returns : goal.returns
returns c = replies_tell_the_book
