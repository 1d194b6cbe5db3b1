use Rattle.collections.proofs.calls.Collection.withdraw.Goals as goal

pub invariant_of-self : goal.invariant_of-self
invariant_of-self g c = record { sound = c.withdraw.ensures.sound g.F.Field.numbers.q c.args.self.now.sound }

pub returns : goal.returns
returns g c = c.withdraw.ensures.judged g.F.Field.numbers.q
