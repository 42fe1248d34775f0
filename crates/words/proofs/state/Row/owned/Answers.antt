-- `words::state::Row::owned`: its four words are.
use Rattle.norx.specs.Whole.{Words, four}
use Rattle.words.proofs.state.Row.owned.Goals as goal

pub returns-clause-words : goal.returns-clause-words
returns-clause-words g c =
    rw (← c.self.view_is) (four c.owned.ensures.fits c.owned-2.ensures.fits c.owned-3.ensures.fits c.owned-4.ensures.fits)
