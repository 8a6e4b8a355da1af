-- What a call over a lent turn answers and leaves as the turn: the step of the call that takes the turn by value.
use Rattle.std.specs.Prelude.{Result}
use Rattle.std.specs.declared.result.Result.TheVariants.{Ok, Err}
use Rattle.field.specs.Element.{F, words_of}
use Rattle.field.specs.declared.answer.Refusal.{Refusal}
use Rattle.prover.specs.declared.turns.Turn.{Turn}
use Rattle.prover.specs.declared.stacked_reduction.Step.{Step}
use Rattle.prover.specs.declared.stacked_reduction.RoundPair.{RoundPair}
use Rattle.turns.specs.declared.stacked_reduction.SentPair.{SentPair}

-- the answer and the turn after, as one step
abbrev pub stepped : Result (Unit {0}) Refusal → Turn → Step
stepped answer turn = record { answer = answer; turn = turn }

-- zeros where refused
abbrev pub paired : Result SentPair Refusal → Turn → RoundPair
paired (Ok sent) turn = record { answer = Ok tt; turn = turn; one = sent.one; two = sent.two }
paired (Err e) turn = record { answer = Err e; turn = turn; one = words_of F.zero; two = words_of F.zero }
