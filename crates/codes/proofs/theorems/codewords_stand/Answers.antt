use Rattle.codes.proofs.Meanings.{codewords_meant}
use Rattle.codes.proofs.theorems.codewords_stand.Goals as goal

pub returns : goal.returns
returns c = codewords_meant
