-- The elements that the claims' weighted sum is taken with: the sum so far, and the power of lambda that comes next.
use Rattle.field.specs.Element.{Elem, words_of}
use Rattle.verifier.specs.declared.claims.Weighed.{Weighed}

abbrev pub weighed : Elem → Elem → Weighed
weighed sum power = record { sum = words_of sum; power = words_of power }
