-- `permutation::rounds::permute` is P: before each turn the state has gone through as many rounds as were counted.
use Rattle.std.proofs.Common.{◌≡◌}
use Rattle.norx.specs.Norx.{p_of}
use Rattle.permutation.proofs.rounds.permute.Given as goal

abbrev pub invariant-loop : goal.invariant-loop
invariant-loop g l = l.t ≡ p_of g.W.Word.width l.counter l.fn.s
