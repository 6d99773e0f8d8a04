-- The division of an executable without words.
use Rattle.std.proofs.Common.{◌≡◌, ◌==◌, ◌%◌, ℕ, zero, suc, inl, inr, Bool, true, false, [], ◌∷◌, Contains, Option, None, refl, subst, arith}
use Rattle.std.proofs.lemmas.List.Elements.{All-head}
use Rattle.std.specs.Prelude.{is_some, if◌then◌else◌}
use Rattle.loop_data.specs.declared.graph.Graph.{Graph}
use Rattle.loop_data.specs.Code.{IsCode, word_at, word_of}
use Rattle.loop_data.specs.Graphs.{IsGraph, IsStart}
use Rattle.loop_data.specs.Loops.{AreLoops}
use Rattle.loop_data.specs.Reaching.{Reached, entry, alone, paired}
use Rattle.loop_choice.specs.Choice.{AreChosen}
use Rattle.loop_division.specs.LoopVerdicts.{ReachesTooMany, AreVerdicts}
use Rattle.loop_division.specs.Sample.{no_code, NoCodeLaw}

no_word : (a : ℕ) → word_at no_code a ≡ None
unfolding word_at
no_word a = go (a % 4 == 0)
  where
    go : (t : Bool) → (if t then word_of [] a else None) ≡ None
    go true = refl
    go false = refl

no_code_at : (a : ℕ) → IsCode no_code a → ⊥
no_code_at a c = let none = subst (λ (o : Option ℕ). is_some o ≡ true) (no_word a) c in absurd (cc)

not_reached : (a : ℕ) → Reached no_code a → ⊥
not_reached _ (entry code) = no_code_at _ code
not_reached _ (alone a b r m code) = no_code_at b code
not_reached _ (paired a b target r q e m code) = no_code_at b code

no_words : Graph
no_words = record { words = []; starts = 0 ∷ [] }

nothing_in : {A : Type 0} (x : A) → Contains [] x → ⊥
nothing_in x c = let l = c.1 in absurd (omega arith)

start_is : (a : ℕ) → Contains (0 ∷ []) a → IsStart no_code a
start_is a (zero, l, e) = inl (let f : 0 ≡ a = e in cc)
start_is a (suc k, l, e) = absurd (omega arith)

is_start : (a : ℕ) → IsStart no_code a → Contains (0 ∷ []) a
is_start a (inl e) = (0, omega arith, cc)
is_start a (inr call) = absurd (not_reached call.0 call.1.reached)

graph : IsGraph no_code no_words
unfolding no_words
graph = record {
  ordered = λ k l. absurd (omega arith);
  reached = λ a. (λ c. absurd (nothing_in a c), λ r. absurd (not_reached a r));
  words = λ k d l. absurd (omega arith);
  starts_ordered = λ k l. absurd (omega arith);
  starts = λ a. (start_is a, is_start a);
}

loops : AreLoops no_words []
unfolding no_words
loops = record {
  ordered = λ k l. absurd (omega arith);
  each = λ k d l. absurd (omega arith);
  loops = λ h is. absurd (nothing_in h is.closed.word);
  edges = λ g u is. absurd (nothing_in is.edge.word is.edge.among);
}

few_reached : ReachesTooMany no_code → ⊥
few_reached ([], n, d, each) = absurd (omega arith)
few_reached (x ∷ xs, n, d, each) = not_reached x (All-head (Reached no_code) x xs each)

verdicts : AreVerdicts no_code no_words [] []
verdicts = record { few = few_reached; graph = graph; loops = loops; judged = tt }

chosen : AreChosen [] []
chosen = record {
  are = record {
    ordered = λ k l. absurd (omega arith);
    each = λ x c. absurd (nothing_in x c);
    every = λ x is. absurd (let e = is.is in cc);
  };
  few = omega arith;
}

pub none_divided : NoCodeLaw
none_divided = record {
  stubs = [];
  are = record {
    graph = no_words;
    shapes = [];
    all = [];
    verdicts = verdicts;
    places = [];
    chosen = chosen;
    stand = tt;
  };
  entries_are = refl;
  code_is = refl;
  room = omega arith;
}
