-- Forms that are set at one place, location by location.
use Rattle.std.proofs.Common.{◌≡◌, ◌≢◌, ℕ, zero, suc, ◌+◌, ◌<◌, ◌≤◌, ◌⊎◌, ◌↔◌, inl, inr, Bool, true, false, List, [], ◌∷◌, length, get_or, set, Option, Some, None, refl, ap, sym, ◌∙◌, subst, arith, if◌then◌else◌}
use Rattle.std.specs.List.{All, Contains}
use Rattle.std.proofs.lemmas.Bool.{cases_eq}
use Rattle.std.proofs.lemmas.List.{get_or-set_same, get_or-set_other, get_or_default, length-set, set-get_or}
use Rattle.rv64_decode.specs.declared.instr.Instr.{Instr}
use Rattle.linear_forms.specs.Forms.{LinearForm}
use Rattle.loop_data.specs.declared.classes.Classes.{Classes}
use Rattle.loop_data.specs.declared.flow.Flow.{Flow}
use Rattle.loop_data.specs.declared.shape.Level.{Level}
use Rattle.loop_data.specs.Points.{Point, no_forms, point_at, form_in, with_forms}
use Rattle.loop_data.specs.Locations.{instr_writes}
use Rattle.loop_data.specs.LoopCode.{LoopCode}
use Rattle.loop_data.specs.Equations.{entry_form}
use Rattle.loop_data.specs.FormRows.{written_form, form_after}
use Rattle.loop_data.specs.Flows.{rows, row_at}
use Rattle.register_equations.specs.Rows.{forms_in}
use Rattle.register_equations.specs.States.{code_with, past, IsInside, IsKept, Comes, IsMet, IsLeft, IsHeaderForm, AreSetBy, AreFormsSet}
use Rattle.register_equations.proofs.Coming.{filled}
use Rattle.register_equations.proofs.Placed.{AreSame, all_moved, inner_state, met_state}

-- the forms at a place are as before
abbrev pub Was : List Point → ℕ → ℕ → Option LinearForm → Type 0
Was old p r o = o ≡ form_in old p r

-- other forms at place p: P tells of those of locations below n, and the others are as before
pub record AreSet (P : ℕ → Option LinearForm → Type 0) (n p : ℕ) (old new : List Point) : Type 0 where
  pub state : List (Option LinearForm)
  pub count : length state ≡ 48
  pub below : (r : ℕ) → r < n → P r (forms_in state r)
  pub others : (r : ℕ) → n ≤ r → Was old p r (forms_in state r)
  pub is : new ≡ with_forms old p state

set_set : (xs : List Point) (p : ℕ) (x y : Point) → set (set xs p x) p y ≡ set xs p y
set_set [] p x y = refl
set_set (z ∷ zs) zero x y = refl
set_set (z ∷ zs) (suc p) x y = ap (λ ys. z ∷ ys) (set_set zs p x y)

pub here : (old new : List Point) (p : ℕ) (state : List (Option LinearForm)) → p < length old → new ≡ with_forms old p state → point_at new p ≡ record { at = (point_at old p).at; forms = state }
here old new p state l e = ap (λ (ps : List Point). point_at ps p) e ∙ get_or-set_same old p (record { at = (point_at old p).at; forms = state }) no_forms l

pub form_here : (old new : List Point) (p r : ℕ) (state : List (Option LinearForm)) → p < length old → new ≡ with_forms old p state → form_in new p r ≡ forms_in state r
form_here old new p r state l e = ap (λ (q : Point). forms_in q.forms r) (here old new p state l e)

pub elsewhere : (old new : List Point) (p k : ℕ) (state : List (Option LinearForm)) → new ≡ with_forms old p state → k ≢ p → point_at old k ≡ point_at new k
elsewhere old new p k state e ne =
    sym (get_or-set_other old p k (record { at = (point_at old p).at; forms = state }) no_forms ne) ∙ ap (λ (ps : List Point). point_at ps k) (sym e)

-- forms that are set at a place twice
pub twice : (old mid new : List Point) (p : ℕ) (s t : List (Option LinearForm)) → p < length old → mid ≡ with_forms old p s → new ≡ with_forms mid p t → new ≡ with_forms old p t
twice old mid new p s t l d e =
    e ∙ ap (λ (q : Point). set mid p (record { at = q.at; forms = t })) (here old mid p s l d)
    ∙ ap (λ (ps : List Point). set ps p (record { at = (point_at old p).at; forms = t })) d
    ∙ set_set old p (record { at = (point_at old p).at; forms = s }) (record { at = (point_at old p).at; forms = t })

pub same_length : (P : ℕ → Option LinearForm → Type 0) (p : ℕ) (old new : List Point) → AreSetBy P p old new → length new ≡ length old
same_length P p old new s = ap (λ (ps : List Point). length ps) s.is ∙ length-set old p (record { at = (point_at old p).at; forms = s.state })

pub set_count : (P : ℕ → Option LinearForm → Type 0) (p : ℕ) (old new : List Point) → p < length old → AreSetBy P p old new → length (point_at new p).forms ≡ 48
set_count P p old new l s = ap (λ (q : Point). length q.forms) (here old new p s.state l s.is) ∙ s.count

-- nothing is set yet
pub nothing_set : (P : ℕ → Option LinearForm → Type 0) (p : ℕ) (old : List Point) → length (point_at old p).forms ≡ 48 → AreSet P 0 p old old
nothing_set P p old n =
    record {
      state = (point_at old p).forms;
      count = n;
      below = λ r m. absurd (omega arith);
      others = λ r m. refl;
      is = sym (set-get_or old p no_forms);
    }

-- the form of one more location is set
pub one_set : (P : ℕ → Option LinearForm → Type 0) (n p : ℕ) (x : Option LinearForm) (old mid new : List Point) → p < length old → n < 48 → AreSet P n p old mid → P n x → new ≡ with_forms mid p (set (point_at mid p).forms n x) → AreSet P (n + 1) p old new
one_set P n p x old mid new l lt s h e =
    let c = s.count in
    let f : (point_at mid p).forms ≡ s.state = ap (λ (q : Point). q.forms) (here old mid p s.state l s.is) in
    record {
      state = set s.state n x;
      count = length-set s.state n x ∙ c;
      below = filled P s.state n x (omega arith) s.below h;
      others = λ r m. get_or-set_other s.state n r x None (λ q. absurd (omega arith)) ∙ s.others r (omega arith);
      is = twice old mid new p s.state (set s.state n x) l s.is (e ∙ ap (λ fs. with_forms mid p (set fs n x)) f);
    }

-- the form of one more location stays
pub one_kept : (P : ℕ → Option LinearForm → Type 0) (n p : ℕ) (old mid : List Point) → p < length old → AreSet P n p old mid → P n (form_in old p n) → AreSet P (n + 1) p old mid
one_kept P n p old mid l s h = record { state = s.state; count = s.count; below = below; others = λ r m. s.others r (omega arith); is = s.is }
  where
    below : (r : ℕ) → r < n + 1 → P r (forms_in s.state r)
    below r m = by (cases_eq r n)
      where
        by : (r ≡ n) ⊎ (r ≢ n) → P r (forms_in s.state r)
        by (inl e) = subst (λ q. P q (forms_in s.state q)) (sym e) (subst (P n) (sym (s.others n (omega arith))) h)
        by (inr ne) = s.below r (omega arith)

-- what a location has before its turn
pub still : (P : ℕ → Option LinearForm → Type 0) (n p : ℕ) (old mid : List Point) → p < length old → AreSet P n p old mid → form_in mid p n ≡ form_in old p n
still P n p old mid l s = form_here old mid p n s.state l s.is ∙ s.others n (omega arith)

pub all_set : (P : ℕ → Option LinearForm → Type 0) (n p : ℕ) (old new : List Point) → 48 ≤ n → AreSet P n p old new → AreSetBy P p old new
all_set P n p old new m s = record { state = s.state; count = s.count; forms = λ r l. s.below r (omega arith); is = s.is }

pub set_length : (P : ℕ → Option LinearForm → Type 0) (n p : ℕ) (old new : List Point) → AreSet P n p old new → length new ≡ length old
set_length P n p old new s = ap (λ (ps : List Point). length ps) s.is ∙ length-set old p (record { at = (point_at old p).at; forms = s.state })

-- sources apart from the place keep their points
pub are_same : (old new : List Point) (p : ℕ) (state : List (Option LinearForm)) (ks : List ℕ) → new ≡ with_forms old p state → All (λ k. k ≢ p) ks → AreSame old new ks
are_same old new p state ks e a k c = elsewhere old new p k state e (subst (λ j. j ≢ p) c.2 (a c.0 k c.1))

-- the form at the header of a loop, out of what was set before
pub headed_set : (B : LoopCode) (levels : List Level) (c : Classes) (l : Level) (P : ℕ → Option LinearForm → Type 0) (p : ℕ) (old mid new : List Point) → p < length old → AreSetBy P p old mid
    → AreSetBy (λ r o. IsHeaderForm B levels c l (λ x. x ≡ form_in mid p r) r o) p mid new → AreSetBy (λ r o. IsHeaderForm B levels c l (P r) r o) p old new
headed_set B levels c l P p old mid new lt s t =
    record {
      state = t.state;
      count = t.count;
      forms = λ r m. let h = t.forms r m in record { outside = h.outside; met = subst (P r) (sym (h.met ∙ form_here old mid p r s.state lt s.is)) (s.forms r m); is = h.is };
      is = twice old mid new p s.state t.state lt s.is t.is;
    }

-- what a word does not write is after it as before
pub kept_past : (flow : Flow) (points : List Point) (k r : ℕ) → instr_writes (get_or flow.instrs.items k None) (get_or flow.uses.items k None) r ≡ false → past flow points k r ≡ form_in points k r
kept_past flow points k r e = ap (λ b. if b then written_form (point_at points k).at (get_or flow.instrs.items k None) (get_or flow.uses.items k None) r (form_in points k) else form_in points k r) e

-- one location, if any, is written
abbrev pub WritesOnly : Flow → ℕ → Option ℕ → Type 0
WritesOnly flow k o = (r : ℕ) → instr_writes (get_or flow.instrs.items k None) (get_or flow.uses.items k None) r ≡ true → o ≡ Some r

-- what is said of an instruction and its cell, said of the word at their place
pub writes_only : (flow : Flow) (k n : ℕ) (i : Option Instr) (cell : Option ℕ) (o p : Option ℕ) → k < n → length flow.instrs.items ≡ n → length flow.uses.items ≡ n → i ≡ get_or flow.instrs.items k i → cell ≡ get_or flow.uses.items k cell
    → o ≡ p → ((r : ℕ) → instr_writes i cell r ≡ true → o ≡ Some r) → WritesOnly flow k p
writes_only flow k n i cell o p l m u e d q only r h =
    let x = e ∙ get_or_default flow.instrs.items k i None (omega arith) in
    let y = d ∙ get_or_default flow.uses.items k cell None (omega arith) in
    sym q ∙ only r (ap (λ j. instr_writes j cell r) x ∙ ap (λ c. instr_writes (get_or flow.instrs.items k None) c r) y ∙ h)

pub past_of : (flow : Flow) (points : List Point) (k n r : ℕ) (i : Option Instr) (cell : Option ℕ) (x : Option LinearForm) → k < n → length flow.instrs.items ≡ n → length flow.uses.items ≡ n → i ≡ get_or flow.instrs.items k i → cell ≡ get_or flow.uses.items k cell
    → x ≡ form_after (code_with i cell) (point_at points k).at (forms_in (point_at points k).forms) r → x ≡ past flow points k r
past_of flow points k n r i cell x l m u e d h =
    let a = e ∙ get_or_default flow.instrs.items k i None (omega arith) in
    let b = d ∙ get_or_default flow.uses.items k cell None (omega arith) in
    h ∙ ap (λ j. form_after (code_with j cell) (point_at points k).at (forms_in (point_at points k).forms) r) a
    ∙ ap (λ c. form_after (code_with (get_or flow.instrs.items k None) c) (point_at points k).at (forms_in (point_at points k).forms) r) b

unwritten : (flow : Flow) (points : List Point) (k r : ℕ) (o : Option ℕ) → WritesOnly flow k o → o ≢ Some r → past flow points k r ≡ form_in points k r
unwritten flow points k r o only ne = by (instr_writes (get_or flow.instrs.items k None) (get_or flow.uses.items k None) r) refl
  where
    by : (b : Bool) → instr_writes (get_or flow.instrs.items k None) (get_or flow.uses.items k None) r ≡ b → past flow points k r ≡ form_in points k r
    by true e = absurd (ne (only r e))
    by false e = kept_past flow points k r e

pub after_none : (flow : Flow) (old new : List Point) (p k : ℕ) (o : Option ℕ) → length (point_at old k).forms ≡ 48 → WritesOnly flow k o → ((r : ℕ) → r < 48 → o ≢ Some r) → new ≡ with_forms old p (point_at old k).forms → AreSetBy (λ r x. x ≡ past flow old k r) p old new
after_none flow old new p k o n only ne e = record { state = (point_at old k).forms; count = n; forms = λ r m. sym (unwritten flow old k r o only (ne r m)); is = e }

pub after_one : (flow : Flow) (old mid new : List Point) (p k w : ℕ) (x : Option LinearForm) → p < length old → length (point_at old k).forms ≡ 48 → WritesOnly flow k (Some w) → w < 48 → x ≡ past flow old k w
    → mid ≡ with_forms old p (point_at old k).forms → new ≡ with_forms mid p (set (point_at mid p).forms w x) → AreSetBy (λ r y. y ≡ past flow old k r) p old new
after_one flow old mid new p k w x l n only lt h d e =
    let F = (point_at old k).forms in
    let f : (point_at mid p).forms ≡ F = ap (λ (q : Point). q.forms) (here old mid p F l d) in
    record {
      state = set F w x;
      count = length-set F w x ∙ n;
      forms = λ r m. each r (cases_eq r w);
      is = twice old mid new p F (set F w x) l d (e ∙ ap (λ fs. with_forms mid p (set fs w x)) f);
    }
  where
    some_is : (a b : ℕ) → Some a ≡ Some b → b ≡ a
    some_is a b q = cc

    each : (r : ℕ) → (r ≡ w) ⊎ (r ≢ w) → forms_in (set (point_at old k).forms w x) r ≡ past flow old k r
    each r (inl q) = subst (λ j. forms_in (set (point_at old k).forms w x) j ≡ past flow old k j) (sym q) (get_or-set_same (point_at old k).forms w x None (omega arith) ∙ h)
    each r (inr ne) = get_or-set_other (point_at old k).forms w r x None ne ∙ sym (unwritten flow old k r (Some w) only (λ q. absurd (ne (some_is w r q))))

-- along one edge that leaves no loop all forms come
inside_kept : (inner : List Level) (u v : ℕ) (f : LinearForm) → All (IsInside u v) inner → All (IsKept u v f) inner
inside_kept inner u v f a i d l = λ h n. let t = a i d l h in absurd (cc)

pub alone_met : (inner : List Level) (flow : Flow) (old new : List Point) (ks : List ℕ) (p v k : ℕ) → length ks ≡ 1 → k ≡ get_or ks 0 k → All (IsInside (point_at old k).at v) inner → AreSetBy (λ r o. o ≡ past flow old k r) p old new → AreSetBy (IsMet inner flow old ks v) p old new
alone_met inner flow old new ks p v k one first a s = record { state = s.state; count = s.count; forms = each; is = s.is }
  where
    at : (i d : ℕ) → i < length ks → get_or ks i d ≡ k
    at i d l = let z : i ≡ 0 = omega arith in subst (λ j. get_or ks j d ≡ k) (sym z) (get_or_default ks 0 d k (omega arith) ∙ sym first)

    each : (r : ℕ) → r < 48 → IsMet inner flow old ks v r (forms_in s.state r)
    each r m f = (
      λ e. λ i d l. subst (λ j. Comes inner flow old j v r f) (sym (at i d l)) (record { after = sym (s.forms r m) ∙ e; kept = inside_kept inner (point_at old k).at v f a }),
      λ h. s.forms r m ∙ subst (λ j. past flow old j r ≡ Some f) (at 0 k (omega arith)) (h 0 k (omega arith)).after,
    )

-- what is left of the forms after the first of the words is what comes along all edges
pub left_met : (inner : List Level) (flow : Flow) (old mid new : List Point) (ks : List ℕ) (p v k : ℕ) → p < length old → 1 ≤ length ks → k ≡ get_or ks 0 k → All (λ j. j ≢ p) ks → AreSetBy (λ r o. o ≡ past flow old k r) p old mid
    → AreSetBy (IsLeft inner flow mid ks p v) p mid new → AreSetBy (IsMet inner flow old ks v) p old new
left_met inner flow old mid new ks p v k lt some first a s t =
    record { state = t.state; count = t.count; forms = each; is = twice old mid new p s.state t.state lt s.is t.is }
  where
    same : AreSame old mid ks
    same = are_same old mid p s.state ks s.is a

    each : (r : ℕ) → r < 48 → IsMet inner flow old ks v r (forms_in t.state r)
    each r m f = (
      λ e. all_moved inner flow mid old ks v r f (λ j c. sym (same j c)) ((t.forms r m f).0 e).1,
      λ h. (t.forms r m f).1 (
        form_here old mid p r s.state lt s.is ∙ s.forms r m ∙ subst (λ j. past flow old j r ≡ Some f) (sym first) (h 0 k some).after,
        all_moved inner flow old mid ks v r f same h,
      ),
    )

-- the form of a location that comes along all edges stays
pub left_kept : (inner : List Level) (flow : Flow) (old mid : List Point) (ks : List ℕ) (p v n : ℕ) → p < length old → All (λ j. j ≢ p) ks → AreSet (IsLeft inner flow old ks p v) n p old mid → ((f : LinearForm) → form_in mid p n ≡ Some f → All (λ k. Comes inner flow mid k v n f) ks)
    → IsLeft inner flow old ks p v n (form_in old p n)
left_kept inner flow old mid ks p v n lt a s come f =
    (λ e. (e, all_moved inner flow mid old ks v n f (λ j c. sym (are_same old mid p s.state ks s.is a j c)) (come f (still (IsLeft inner flow old ks p v) n p old mid lt s ∙ e))), λ h. h.0)

pub left_none : (inner : List Level) (flow : Flow) (old mid : List Point) (ks : List ℕ) (p v n : ℕ) → p < length old → All (λ j. j ≢ p) ks → AreSet (IsLeft inner flow old ks p v) n p old mid → ((f : LinearForm) → form_in mid p n ≡ Some f → ¬ All (λ k. Comes inner flow mid k v n f) ks)
    → IsLeft inner flow old ks p v n None
left_none inner flow old mid ks p v n lt a s none f =
    (λ e. absurd (cc), λ h. absurd (none f (still (IsLeft inner flow old ks p v) n p old mid lt s ∙ h.0) (all_moved inner flow old mid ks v n f (are_same old mid p s.state ks s.is a) h.1)))

-- the forms at the word at a place are right: at the root's header, at that of an inner loop, and elsewhere
pub root_set : (B : LoopCode) (levels inner : List Level) (root : Level) (c : Classes) (flow : Flow) (p v : ℕ) (old new : List Point) → v ≡ (point_at old p).at → v ≡ root.header
    → AreSetBy (λ r o. IsHeaderForm B levels c root (λ x. x ≡ entry_form B r) r o) p old new → AreFormsSet B levels inner root c flow p old new
root_set B levels inner root c flow p v old new at h s = record { state = s.state; right = record { count = s.count; first = λ q. s.forms; other = λ ne. absurd (ne (sym at ∙ h)) }; is = s.is }

pub inner_set : (B : LoopCode) (levels inner : List Level) (root : Level) (c : Classes) (flow : Flow) (p v : ℕ) (l : Level) (ks : List ℕ) (old new : List Point) → v ≡ (point_at old p).at → v ≢ root.header → Contains inner l → v ≡ l.header → ks ≡ row_at (rows flow.sources.items) p
    → AreSetBy (λ r o. IsHeaderForm B levels c l (IsMet inner flow old ks v r) r o) p old new → AreFormsSet B levels inner root c flow p old new
inner_set B levels inner root c flow p v l ks old new at ne i h e s =
    record { state = s.state; right = inner_state B levels inner root c flow old ks (row_at (rows flow.sources.items) p) v (point_at old p).at s.state l i h ne s.count s.forms e at; is = s.is }

pub met_set : (B : LoopCode) (levels inner : List Level) (root : Level) (c : Classes) (flow : Flow) (p v : ℕ) (ks : List ℕ) (old new : List Point) → v ≡ (point_at old p).at → v ≢ root.header → ((l : Level) → Contains inner l → v ≢ l.header) → ks ≡ row_at (rows flow.sources.items) p
    → AreSetBy (IsMet inner flow old ks v) p old new → AreFormsSet B levels inner root c flow p old new
met_set B levels inner root c flow p v ks old new at ne none e s =
    record { state = s.state; right = met_state B levels inner root c flow old ks (row_at (rows flow.sources.items) p) v (point_at old p).at s.state none ne s.count s.forms e at; is = s.is }
