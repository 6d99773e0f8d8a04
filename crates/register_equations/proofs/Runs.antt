-- The forms hold at the visits of a run that executes the words of a nest.
use Rattle.std.proofs.Common.{◌≡◌, ℕ, ◌<◌, ◌≤◌, Option, Some, refl, sym, ◌∙◌, subst, arith, pos}
use Rattle.linear_forms.specs.Forms.{Alike, LinearForm, exact, stride}
use Rattle.loop_data.specs.declared.shape.Level.{Level}
use Rattle.loop_data.specs.Nests.{Nest, nest_of, IsNest}
use Rattle.loop_data.specs.Runs.{State, walk}
use Rattle.loop_data.specs.Passes.{passes}
use Rattle.loop_data.specs.LoopCode.{LoopCode, code_of}
use Rattle.loop_data.specs.Independent.{Role}
use Rattle.loop_data.specs.FormRows.{form_after}
use Rattle.loop_data.specs.Holds.{entry_of, times, HoldsAt}
use Rattle.loop_data.specs.Executing.{AreCellWords, Executes, AreAtCells, value_at, IsOf32Bits}
use Rattle.loop_data.proofs.NestVisits.{AreGiven, are_given, visit, here, holds_word, walks_inside}
use Rattle.loop_data.proofs.Strides.{without_after}
use Rattle.loop_data.proofs.CellVisits.{on_cells}
use Rattle.loop_data.proofs.FormWords.{kept_at, right_at}
use Rattle.register_equations.specs.FormLaws.{AreSolved, MeetsDuties, FormLaw, TurnsLaw}
use Rattle.register_equations.proofs.Times.{exact_times}
use Rattle.register_equations.proofs.Solutions.{words_of, step_of, solution_of}
use Rattle.register_equations.proofs.Walks.{Does, good_at}

forms_at : (N : Nest) (B : LoopCode) (roles : Level → ℕ → Role) (at : ℕ → ℕ → Option LinearForm) (s : State) (n : ℕ) → IsNest N → AreGiven N B → AreSolved N B roles at → AreCellWords N.root B
    → AreAtCells B.cells s n → MeetsDuties N B at s n → HoldsAt N B.cells at s n
forms_at N B roles at s n nest given solved uses own met r f k =
    subst (λ z. Alike (value_at B.cells s n r) z) (sym (same_value n (omega arith) f))
    ((good_at N (words_of B) (λ l q. step_of (roles l q)) at (walk s) (value_at B.cells s) n nest (solution_of N B roles at nest solved) flat (walks_inside N B given s n e) refl does).holds r f k)
  where
    e : Executes N.root B s n
    e = met.executes

    flat : (u k : ℕ) → ((r : ℕ) (f : LinearForm) → at u r ≡ Some f → stride f k ≡ pos 0) → (r : ℕ) (f : LinearForm) → form_after B u (at u) r ≡ Some f → stride f k ≡ pos 0
    flat u k h = without_after B u k (at u) h

    same_value : (m : ℕ) → m ≤ n → (f : LinearForm) → exact f (entry_of B.cells s) (times N s m) ≡ exact f (entry_of B.cells s) (passes N (walk s) m)
    same_value m le f = exact_times N s m f (entry_of B.cells s) nest (λ k l. here N B given s n e k (omega arith)) (λ k l. holds_word N B given s n e k (omega arith))

    does : (m : ℕ) → m < n → Does N (words_of B) at (walk s) (value_at B.cells s) m
    does m lt =
        let v = visit N B given s n e m lt in
        let on = on_cells N.root B s n m uses own met.leaves lt (holds_word N B given s n e m (omega arith)) v (e.words m lt ∙ v.is) in
        record {
          right = λ holds q. right_at B s m v on (at (walk s m)) (value_at B.cells s 0) (passes N (walk s) m) holds q (λ w g d. subst IsOf32Bits (same_value m (omega arith) g) (met.duties m g lt d));
          kept = kept_at B s m v on;
        }

pub form_law : FormLaw
form_law G ls nest words C roles at s n = forms_at (nest_of G nest.root nest.inner) (code_of G C) roles at s n nest.nest (are_given G ls nest C words)

pub turns_law : TurnsLaw
turns_law G ls nest words C roles at s p solved uses each n lt inside =
    let k = each n lt inside in
    form_law G ls nest words C roles at s n solved uses k.0 k.1
