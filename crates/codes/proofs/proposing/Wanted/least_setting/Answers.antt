use Rattle.std.proofs.Common.{rules}
use Rattle.codes.specs.Settings.{least_limit, least_setting}
use Rattle.codes.proofs.Mapped.{find_map_first}
use Rattle.codes.proofs.proposing.Wanted.least_setting.Goals as goal

pub returns : goal.returns
unfolding least_setting
returns c = find_map_first _ _ (least_limit c.args.self.n c.args.self.k c.args.self.radius) (λ x o q k. search rules) 1 8 c.find_map.result c.find_map.ensures.runs
