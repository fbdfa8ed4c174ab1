use Rattle.escrow_num.proofs.ReadBack.{read-back, whole-text}
use Rattle.escrow_num.proofs.laws.texts_are_read_back.Goals as goal

pub returns : goal.returns
returns c = record {
  read_back = read-back;
  whole = whole-text;
}
