-- The program of two instructions.
use Rattle.std.proofs.Common.{◌≡◌, ℕ, zero, suc, ◌<◌, inl, [], ◌∷◌, refl, ap, sym, ◌∙◌, subst, arith}
use Rattle.std.specs.Prelude.{IsNone, slice_index}
use Rattle.std.proofs.lemmas.List.Elements.{All-nil}
use Rattle.elf_image.specs.Layout.{IsLoadable}
use Rattle.guest_memory.specs.Areas.{zeros}
use Rattle.guest_calls.specs.Calls.{called}
use Rattle.serial_run.specs.Serial.{start_of, serial, ended, step, IsEnding}
use Rattle.serial_run.specs.Sound.{HaveBytes}
use Rattle.hart_core.specs.Machine.{capped}
use Rattle.hart_core.specs.Counting.{steps_of}
use Rattle.hart_core.specs.Start.{start_state}
use Rattle.hart_core.specs.Alone.{events_alone}
use Rattle.one_hart.specs.Laws.{IsDivided}
use Rattle.walks.specs.Walk.{Point, IsPoint}
use Rattle.walks.specs.Laws.{plain_point, PlainLaw, EndLaw}
use Rattle.walks.specs.Sample.{two_words, two_word_image, SampleWalk}

loadable : IsLoadable two_words
loadable = record {
  few = omega arith;
  apart = (omega arith, omega arith, omega arith, omega arith, refl, tt);
  size = omega arith;
  aligned = refl;
  entry = refl;
}

have_bytes : HaveBytes two_words.segments
have_bytes = (each, tt)
  where
    each : (i : ℕ) → slice_index (0x93 ∷ 0x08 ∷ 0xD0 ∷ 0x05 ∷ 0x73 ∷ 0 ∷ 0 ∷ 0 ∷ []) i < 256
    each zero = omega arith
    each (suc zero) = omega arith
    each (suc (suc zero)) = omega arith
    each (suc (suc (suc zero))) = omega arith
    each (suc (suc (suc (suc zero)))) = omega arith
    each (suc (suc (suc (suc (suc i))))) = last i
      where
        last : (i : ℕ) → slice_index (0 ∷ 0 ∷ 0 ∷ []) i < 256
        last zero = omega arith
        last (suc zero) = omega arith
        last (suc (suc zero)) = omega arith
        last (suc (suc (suc i))) = omega arith

divided : IsDivided two_word_image
divided = record { loadable = loadable; bytes = have_bytes; entries = inl refl }

goes_on : (k : ℕ) → k < 2 → IsNone (ended (serial k (start_of two_words [])))
unfolding step zeros called
goes_on zero lt = refl
goes_on (suc zero) lt = refl
goes_on (suc (suc k)) lt = absurd (omega (arith, lt))

ending : IsEnding (start_of two_words []) 2 (serial 2 (start_of two_words []))
unfolding step zeros called
ending = record { reached = refl; at_end = refl; first = goes_on }

pub sample_walk : PlainLaw → EndLaw → SampleWalk
sample_walk plain ends =
    let e = ends two_word_image [] 2 (serial 2 (start_of two_words [])) divided (All-nil (λ (b : ℕ). b < 256)) ending in
    let is : e.1 ≡ plain_point e.0 = plain two_word_image [] e.0 e.1 refl e.2.point in
    let two : e.0 ≡ 2 = ap (λ (w : Point). w.index) (sym is) ∙ e.2.index in
    let events : e.1.events ≡ 2 = ap (λ (w : Point). w.events) is ∙ two in
    record {
      divided = divided;
      ending = ending;
      point = subst (λ k. IsPoint two_word_image [] k (plain_point k)) two (subst (IsPoint two_word_image [] e.0) is e.2.point);
      steps = subst (λ n. steps_of (events_alone n (start_state two_word_image 1 [])).core.harts ≡ capped n) events e.2.steps;
    }
