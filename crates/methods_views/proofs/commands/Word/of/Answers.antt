-- `Word::of`: there are as many commands as words, each at the place of its word.
use Rattle.std.proofs.Common.{◌≡◌, ℕ, ◌<◌, List, length, map, get_or, refl, sym, ap, subst, ◌∙◌, zero-add, arith}
use Rattle.std.specs.List.{range_with_len}
use Rattle.std.proofs.lemmas.List.{get_or-map}
use Rattle.std.proofs.lemmas.List.FromFn.{get_or-range_with_len}
use Rattle.text.specs.Names.{extended, words_of, Placed}
use Rattle.methods_views.specs.Commands.{place_of}
use Rattle.methods_views.specs.declared.commands.TheConstants.{WORDS, COMMANDS}
use Rattle.methods_views.specs.declared.commands.Word.{Word}
use Rattle.methods_views.proofs.commands.Word.of.Goals as goal

as_many : length (words_of WORDS.now) ≡ 17
unfolding words_of extended
as_many = refl

in_order : map place_of COMMANDS ≡ range_with_len 0 17
in_order = refl

at_place : (k : ℕ) (d : Word) → k < 17 → place_of (get_or COMMANDS k d) ≡ k
at_place k d h = sym (get_or-map place_of COMMANDS k d 0 h) ∙ ap (λ (l : List ℕ). get_or l k 0) in_order ∙ get_or-range_with_len 0 17 k 0 h ∙ zero-add k

inside : (place : ℕ) → place < length (words_of WORDS.now) → place < 17
inside place h = omega (arith, as_many)

pub bounds-place-place : goal.bounds-place-place
bounds-place-place c = inside c.in_ok-place.place c.in_ok-place.ensures.0

pub returns : goal.returns
returns c =
    let place = c.in_ok-place.place in
    let P : ℕ → Type 0 = λ n. (n < length (words_of WORDS.now)) × Placed (words_of WORDS.now) c.args.word.now n in
    subst P (sym (at_place place _ (inside place c.in_ok-place.ensures.0))) c.in_ok-place.ensures
