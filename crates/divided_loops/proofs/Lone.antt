-- Runs of the only hart.
use Rattle.std.proofs.Common.{◌≡◌, ◌≢◌, ℕ, zero, suc, ◌<◌, refl, sym, subst, ap, ◌∙◌, arith, Option, Some, None, Bool, true, false, List, [], ◌∷◌, ◌++◌, ◌⊎◌, inl, inr}
use Rattle.rv64_decode.specs.Ask.{Ask}
use Rattle.rv64_decode.specs.Hart.{Hart, fetched, moved, act, outcome_at, x_asks, run}
use Rattle.rv64_decode.specs.declared.outcome.Next.TheVariants.{At, Call, Fault as Faulting}
use Rattle.rv64_decode.specs.declared.xinstr.XInstr.{XInstr}
use Rattle.rv64_decode.specs.declared.xinstr.XInstr.TheVariants.{Base, Put, Get, Par, Join, Back, Id, Harts}
use Rattle.rv64_decode.specs.declared.xinstr.XNext.{XNext}
use Rattle.rv64_decode.specs.declared.xinstr.XNext.TheVariants.{Own, Shared}
use Rattle.divided_loops.specs.Alone.{behind_it, act_alone, run_alone, goes_on_by, goes_on, MeetsNoFault}
use Rattle.divided_loops.specs.Forks.{turns_told, with_fork, turns_divided, LeavesFirst}

-- the run comes from one hart to the other, leaves nowhere before, and divides these turns at its forks
pub record Gets (code : List ℕ) (h to : Hart) (turns : List ℕ) : Type 0 where
  pub steps : ℕ
  pub is : run_alone code steps h ≡ to
  pub before : (k : ℕ) → k < steps → fetched code (run_alone code k h).pc ≢ Some Back
  pub divides : turns_divided code steps h ≡ turns

here : (code : List ℕ) (h : Hart) → Gets code h h []
unfolding run_alone turns_divided
here code h = record { steps = 0; is = refl; before = λ k l. absurd (omega (arith, l)); divides = refl }

pub first_step : (code : List ℕ) (h to : Hart) (turns : List ℕ) → fetched code h.pc ≢ Some Back
    → Gets code (act_alone (fetched code h.pc) h) to turns → Gets code h to (with_fork (fetched code h.pc) h turns)
unfolding run_alone turns_divided
first_step code h to turns other g = record {
  steps = suc g.steps;
  is = g.is;
  before = no_back;
  divides = ap (with_fork (fetched code h.pc) h) g.divides;
}
  where
    no_back : (k : ℕ) → k < suc g.steps → fetched code (run_alone code k h).pc ≢ Some Back
    no_back zero l = other
    no_back (suc k) l = g.before k (omega (arith, l))

fork_first : (o : Option XInstr) (h : Hart) (a b : List ℕ) → with_fork o h (a ++ b) ≡ with_fork o h a ++ b
fork_first None h a b = refl
fork_first (Some Par) h a b = refl
fork_first (Some Join) h a b = refl
fork_first (Some Back) h a b = refl
fork_first (Some (Base i)) h a b = refl
fork_first (Some (Put slot rs1)) h a b = refl
fork_first (Some (Get rd slot)) h a b = refl
fork_first (Some (Id rd)) h a b = refl
fork_first (Some (Harts rd)) h a b = refl

joined_steps : (code : List ℕ) (n : ℕ) (h mid to : Hart) (later : List ℕ) → run_alone code n h ≡ mid
    → ((k : ℕ) → k < n → fetched code (run_alone code k h).pc ≢ Some Back) → Gets code mid to later
    → Gets code h to (turns_divided code n h ++ later)
unfolding run_alone turns_divided
joined_steps code zero h mid to later e before g = subst (λ x. Gets code x to later) (sym e) g
joined_steps code (suc n) h mid to later e before g =
    let next = act_alone (fetched code h.pc) h in
    let rest = joined_steps code n next mid to later e (λ k l. before (suc k) (omega (arith, l))) g in
    subst (Gets code h to) (fork_first (fetched code h.pc) h (turns_divided code n next) later)
    (first_step code h to (turns_divided code n next ++ later) (before 0 (omega arith)) rest)

pub joined : (code : List ℕ) (h mid to : Hart) (a b : List ℕ) → Gets code h mid a → Gets code mid to b → Gets code h to (a ++ b)
joined code h mid to a b f g =
    subst (λ x. Gets code h to (x ++ b)) f.divides (joined_steps code f.steps h mid to b f.is f.before g)

-- an instruction is executed so too, and is none of the three that concern other harts, or nothing becomes of it elsewhere
record IsSameAct (i : Option XInstr) (h : Hart) : Type 0 where
  same : act_alone i h ≡ act i h
  other : i ≢ Some Back
  no_fork : with_fork i h [] ≡ []

same_act : (i : Option XInstr) (h : Hart) → IsSameAct i h ⊎ (act i h ≡ h)
same_act None h = inr refl
same_act (Some Par) h = inr refl
same_act (Some Join) h = inr refl
same_act (Some Back) h = inr refl
same_act (Some (Base i)) h = inl (record { same = refl; other = λ e. cc e; no_fork = refl })
same_act (Some (Put slot rs1)) h = inl (record { same = refl; other = λ e. cc e; no_fork = refl })
same_act (Some (Get rd slot)) h = inl (record { same = refl; other = λ e. cc e; no_fork = refl })
same_act (Some (Id rd)) h = inl (record { same = refl; other = λ e. cc e; no_fork = refl })
same_act (Some (Harts rd)) h = inl (record { same = refl; other = λ e. cc e; no_fork = refl })

-- a run among others is one of the only hart, which comes to no fork before its end
pub alone : (code : List ℕ) (n : ℕ) (h : Hart) → Gets code h (run code n h) []
unfolding run
alone code zero h = here code h
alone code (suc n) h = go (same_act (fetched code h.pc) h) (λ x. alone code n x)
  where
    go : IsSameAct (fetched code h.pc) h ⊎ (act (fetched code h.pc) h ≡ h) → ((x : Hart) → Gets code x (run code n x) [])
        → Gets code h (run code n (act (fetched code h.pc) h)) []
    go (inl e) rest =
        let to = run code n (act (fetched code h.pc) h) in
        let there = subst (λ x. Gets code x to []) (sym e.same) (rest (act (fetched code h.pc) h)) in
        subst (Gets code h to) e.no_fork (first_step code h to [] e.other there)
    go (inr e) rest = subst (λ x. Gets code h (run code n x) []) (sym e) (rest h)

pub over_par : (code : List ℕ) (h to : Hart) (turns : List ℕ) → fetched code h.pc ≡ Some Par → Gets code (behind_it h) to turns
    → Gets code h to (turns_told h.slots ∷ turns)
over_par code h to turns e g =
    subst (λ o. Gets code h to (with_fork o h turns)) e
    (first_step code h to turns (λ b. let f = sym e ∙ b in cc f) (subst (λ o. Gets code (act_alone o h) to turns) (sym e) g))

pub over_join : (code : List ℕ) (h to : Hart) (turns : List ℕ) → fetched code h.pc ≡ Some Join → Gets code (behind_it h) to turns
    → Gets code h to turns
over_join code h to turns e g =
    subst (λ o. Gets code h to (with_fork o h turns)) e
    (first_step code h to turns (λ b. let f = sym e ∙ b in cc f) (subst (λ o. Gets code (act_alone o h) to turns) (sym e) g))

-- where it comes to a word at which it leaves, that is the first one
pub leaves_first : (code : List ℕ) (h to : Hart) (turns : List ℕ) (g : Gets code h to turns) → fetched code to.pc ≡ Some Back
    → LeavesFirst code g.steps h turns
leaves_first code h to turns g e = record {
  first = record { leaves = subst (λ (x : Hart). fetched code x.pc ≡ Some Back) (sym g.is) e; first = g.before };
  divides = g.divides;
}

-- ---- a hart that would not go on stays where it is

moved_stuck : (h : Hart) (n : XNext) (regs slots : List ℕ) (ask : Ask) → goes_on_by n ≡ false → moved h n regs slots ask ≡ h
moved_stuck h (Own (At pc)) regs slots ask e = absurd (cc)
moved_stuck h (Own Call) regs slots ask e = refl
moved_stuck h (Own (Faulting kind addr)) regs slots ask e = refl
moved_stuck h Shared regs slots ask e = refl

stuck : (i : Option XInstr) (h : Hart) → goes_on i h ≡ false → act_alone i h ≡ h
stuck None h e = refl
stuck (Some Par) h e = absurd (cc)
stuck (Some Join) h e = absurd (cc)
stuck (Some Back) h e = absurd (cc)
stuck (Some (Base i)) h e = moved_stuck h (outcome_at (Base i) h).next (outcome_at (Base i) h).regs (outcome_at (Base i) h).slots (x_asks (Base i) h.regs) e
stuck (Some (Put slot rs1)) h e = absurd (cc)
stuck (Some (Get rd slot)) h e = absurd (cc)
stuck (Some (Id rd)) h e = absurd (cc)
stuck (Some (Harts rd)) h e = absurd (cc)

stuck_run : (code : List ℕ) (n : ℕ) (h : Hart) → goes_on (fetched code h.pc) h ≡ false → run_alone code n h ≡ h
unfolding run_alone
stuck_run code zero h e = refl
stuck_run code (suc n) h e = ap (run_alone code n) (stuck (fetched code h.pc) h e) ∙ stuck_run code n h e

back_run : (code : List ℕ) (n : ℕ) (h : Hart) → fetched code h.pc ≡ Some Back → run_alone code n h ≡ h
unfolding run_alone
back_run code zero h e = refl
back_run code (suc n) h e = ap (λ o. run_alone code n (act_alone o h)) e ∙ back_run code n h e

goes_at_back : (code : List ℕ) (h : Hart) → fetched code h.pc ≡ Some Back → goes_on (fetched code h.pc) h ≡ true
goes_at_back code h e = ap (λ o. goes_on o h) e

-- where it comes to the word at which it leaves, it went on at each before
goes_before : (code : List ℕ) (n m : ℕ) (h : Hart) → fetched code (run_alone code n h).pc ≡ Some Back → goes_on (fetched code (run_alone code m h).pc) (run_alone code m h) ≡ true
unfolding run_alone
goes_before code zero m h e = subst (λ (x : Hart). goes_on (fetched code x.pc) x ≡ true) (sym (back_run code m h e)) (goes_at_back code h e)
goes_before code (suc n) zero h e = go (goes_on (fetched code h.pc) h) refl
  where
    go : (b : Bool) → goes_on (fetched code h.pc) h ≡ b → goes_on (fetched code h.pc) h ≡ true
    go true q = q
    go false q = goes_at_back code h (subst (λ (x : Hart). fetched code x.pc ≡ Some Back) (stuck_run code (suc n) h q) e)
goes_before code (suc n) (suc m) h e = goes_before code n m (act_alone (fetched code h.pc) h) e

pub no_fault : (code : List ℕ) (h to : Hart) (turns : List ℕ) → Gets code h to turns → fetched code to.pc ≡ Some Back → MeetsNoFault code h
no_fault code h to turns g e m = goes_before code g.steps m h (subst (λ (x : Hart). fetched code x.pc ≡ Some Back) (sym g.is) e)
