use Rattle.marking.proofs.step.Step.go_back.Goals as goal

pub returns-clause-steps : goal.returns-clause-steps
returns-clause-steps c = λ g d.
    let levels = c.fill_levels.ensures g d in
    c.put_ways.ensures.steps g d levels (c.fill_ways.ensures g d levels)

pub returns-clause-touches : goal.returns-clause-touches
returns-clause-touches c = c.put_ways.ensures.touches
