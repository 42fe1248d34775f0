-- `words::state::State::owned`: its four rows are.
use Rattle.norx.specs.Whole.{Whole, four_rows}
use Rattle.words.proofs.state.State.owned.Goals as goal

pub returns-clause-whole : goal.returns-clause-whole
returns-clause-whole g c =
    rw (← c.self.view_is) (four_rows c.owned.ensures.words c.owned-2.ensures.words c.owned-3.ensures.words c.owned-4.ensures.words)
