use Rattle.console.proofs.Overlong.{first_bytes}
use Rattle.console.proofs.headers.first_bytes_tell.Goals as goal

pub returns : goal.returns
returns c = first_bytes
