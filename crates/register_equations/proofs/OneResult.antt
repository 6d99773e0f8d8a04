-- Two answers for the equations of a nest are the same.
use Rattle.std.proofs.Common.{◌≡◌, ◌≢◌, ℕ, zero, suc, ◌<◌, inl, inr, ◌==◌, Bool, true, false, if◌then◌else◌, List, [], ◌∷◌, length, get_or, map, Option, Some, None, refl, ap, sym, ◌∙◌, subst, arith}
use mathlib.Core.Path.{fun_ext}
use Rattle.std.specs.List.{All, Contains}
use Rattle.std.specs.List.Sorted.{IsStrictlyIncreasing}
use Rattle.std.specs.Prelude.{slice_index, slice_index_or}
use Rattle.std.proofs.lemmas.List.{get_or_default, same_lists}
use Rattle.linear_forms.specs.Forms.{LinearForm}
use Rattle.linear_forms.specs.declared.location.Loc.{Loc}
use Rattle.loop_data.specs.declared.classes.Class.{Class}
use Rattle.loop_data.specs.declared.classes.Classes.{Classes}
use Rattle.loop_data.specs.declared.equations.Duty.{Duty}
use Rattle.loop_data.specs.declared.equations.Equations.{Equations}
use Rattle.loop_data.specs.Points.{Point}
use Rattle.loop_data.specs.declared.graph.Graph.{Graph}
use Rattle.loop_data.specs.declared.shape.Level.{Level}
use Rattle.loop_data.specs.FormRows.{duty}
use Rattle.loop_data.specs.Independent.{Role}
use Rattle.loop_data.specs.Locations.{CellMap}
use Rattle.loop_data.specs.LoopCode.{LoopCode, code_of, any_writes}
use Rattle.loop_data.specs.LoopWords.{AreNest}
use Rattle.loop_data.specs.Lookups.{form_at, role_by, classes_of, roles_by}
use Rattle.loop_data.specs.Nests.{Nest, has, nest_of}
use Rattle.loop_data.specs.Equations.{AreForms}
use Rattle.loop_data.specs.Results.{IsNestOf, IsInnermost, IsAround, IsDuty, AreDuties, IsUnconfirmed, IsLeastLocation, class_at}
use Rattle.loop_data.proofs.Keys.{same_keyed, same_keys}
use Rattle.loop_data.proofs.Least.{least_is_one}
use Rattle.loop_data.proofs.Lists.{In, Apart, apart_from_increasing}
use Rattle.loop_data.proofs.OnePlace.{one_innermost, one_around}
use Rattle.loop_data.proofs.Tests.{is_eq, is_ne}
use Rattle.register_equations.specs.OneResult.{AreAlike, AreAnswers, OneFormLaw, OneUnconfirmedLaw, OneDutiesLaw, HasAllEntries, OneEquationsLaw}
use Rattle.register_equations.proofs.Unique.{one_solution}

-- ---- roles

no_classes : (ms : List Level) (l : Level) → classes_of ms [] l ≡ []
no_classes [] l = refl
no_classes (m ∷ ms) l = refl

-- what rows tell of a location
abbrev told : List (Option Class) → ℕ → Option Class
told row r = slice_index_or row r None

-- one of two rows each
same_choice : (b : Bool) (x y v w : List (Option Class)) (r : ℕ) → told x r ≡ told y r → told v r ≡ told w r → told (if b then x else v) r ≡ told (if b then y else w) r
same_choice true x y v w r e f = e
same_choice false x y v w r e f = f

same_classes : (ms : List Level) (l : Level) (r : ℕ) (xs ys : List (List (Option Class))) → ((i : ℕ) → class_at xs i r ≡ class_at ys i r) → told (classes_of ms xs l) r ≡ told (classes_of ms ys l) r
same_classes [] l r xs ys f = refl
same_classes (m ∷ ms) l r [] [] f = refl
same_classes (m ∷ ms) l r [] (y ∷ ys) f =
    kept (m.header == l.header) ∙ same_choice (m.header == l.header) [] y [] (classes_of ms ys l) r (f 0) (ap (λ row. told row r) (sym (no_classes ms l)) ∙ same_classes ms l r [] ys (λ i. f (suc i)))
  where
    kept : (b : Bool) → told [] r ≡ told (if b then [] else []) r
    kept true = refl
    kept false = refl
same_classes (m ∷ ms) l r (x ∷ xs) [] f =
    same_choice (m.header == l.header) x [] (classes_of ms xs l) [] r (f 0) (same_classes ms l r xs [] (λ i. f (suc i)) ∙ ap (λ row. told row r) (no_classes ms l)) ∙ kept (m.header == l.header)
  where
    kept : (b : Bool) → told (if b then [] else []) r ≡ told [] r
    kept true = refl
    kept false = refl
same_classes (m ∷ ms) l r (x ∷ xs) (y ∷ ys) f = same_choice (m.header == l.header) x y (classes_of ms xs l) (classes_of ms ys l) r (f 0) (same_classes ms l r xs ys (λ i. f (suc i)))

pub same_roles : (B : LoopCode) (ls : List Level) (c d : Classes) → AreAlike c d → roles_by B ls c ≡ roles_by B ls d
same_roles B ls c d a = fun_ext (λ l. fun_ext (λ r. ap (role_by (any_writes B l.body r)) (same_classes ls l r (c.root ∷ c.inner) (d.root ∷ d.inner) (rows r))))
  where
    rows : (r i : ℕ) → class_at (c.root ∷ c.inner) i r ≡ class_at (d.root ∷ d.inner) i r
    rows r zero = a.root r
    rows r (suc i) = a.inner i r

-- ---- points

abbrev point_ats : List Point → List ℕ
point_ats ps = map (λ (p : Point). p.at) ps

-- where no point stands there are no forms
nowhere : (ps : List Point) (u r : ℕ) → has (point_ats ps) u ≡ false → form_at ps u r ≡ None
nowhere [] u r e = refl
nowhere (p ∷ ps) u r e = go (p.at == u) e (nowhere ps u r)
  where
    go : (b : Bool) → (if b then true else has (point_ats ps) u) ≡ false → (has (point_ats ps) u ≡ false → form_at ps u r ≡ None) → (if b then slice_index_or p.forms r None else form_at ps u r) ≡ None
    go true f later = absurd (cc)
    go false f later = later f

-- behind its first point a list tells the forms at other addresses
behind : (p : Point) (ps : List Point) (u r : ℕ) → p.at ≢ u → form_at (p ∷ ps) u r ≡ form_at ps u r
behind p ps u r ne = ap (λ (b : Bool). if b then slice_index_or p.forms r None else form_at ps u r) (is_ne p.at u ne)

first : (p : Point) (ps : List Point) (r : ℕ) → form_at (p ∷ ps) p.at r ≡ slice_index_or p.forms r None
first p ps r = ap (λ (b : Bool). if b then slice_index_or p.forms r None else form_at ps p.at r) (is_eq p.at p.at refl)

-- points at the same addresses with the same forms
same_points : (ps qs : List Point) → point_ats ps ≡ point_ats qs → Apart (point_ats ps) → ((u r : ℕ) → In (point_ats ps) u → form_at ps u r ≡ form_at qs u r)
    → All (λ (p : Point). length p.forms ≡ 48) ps → All (λ (p : Point). length p.forms ≡ 48) qs → ps ≡ qs
same_points [] [] e a f m n = refl
same_points [] (q ∷ qs) e a f m n = absurd (cc)
same_points (p ∷ ps) [] e a f m n = absurd (cc)
same_points (p ∷ ps) (q ∷ qs) e a f m n =
    let at : p.at ≡ q.at = cc in
    let rest : point_ats ps ≡ point_ats qs = cc in
    let x = m 0 p (omega arith) in
    let y = n 0 q (omega arith) in
    let forms : p.forms ≡ q.forms = same_lists p.forms q.forms (x ∙ sym y)
    (λ k d l. get_or_default p.forms k d None l ∙ sym (first p ps k) ∙ f p.at k (inl refl) ∙ ap (λ u. form_at (q ∷ qs) u k) at ∙ first q qs k ∙ get_or_default q.forms k None d (omega arith)) in
    ap (λ u. record { at = u; forms = p.forms } ∷ ps) at
    ∙ ap (λ (fs : List (Option LinearForm)). record { at = q.at; forms = fs } ∷ ps) forms
    ∙ ap (λ (rs : List Point). q ∷ rs) (same_points ps qs rest a.1 (λ u r i. sym (behind p ps u r (other u i)) ∙ f u r (inr i) ∙ behind q qs u r (λ g. other u i (at ∙ g))) (λ k d l. m (suc k) d (omega arith)) (λ k d l. n (suc k) d (omega arith)))
  where
    other : (u : ℕ) → In (point_ats ps) u → p.at ≢ u
    other u i g = a.0 (subst (In (point_ats ps)) (sym g) i)

-- ---- duties

module _ (G : Graph) (ls : List Level) (nest : AreNest G ls) (B : LoopCode) (at : ℕ → ℕ → Option LinearForm) where
  same_duty : (c d : Duty) → IsDuty ls B at c → IsDuty ls B at d → c.at ≡ d.at → length c.around ≡ 3 → length d.around ≡ 3 → c ≡ d
  same_duty c d f g e m n =
      let form : c.form ≡ d.form = inside (sym f.form ∙ ap (λ u. duty B u (at u)) e ∙ g.form) in
      let level : c.level ≡ d.level = one_innermost G ls nest d.at c.level d.level (subst (λ u. IsInnermost ls u c.level) e f.innermost) g.innermost in
      let around : c.around ≡ d.around = same_lists c.around d.around (m ∙ sym n) place in
      ap (λ u. record { at = u; level = c.level; around = c.around; form = c.form }) e
      ∙ ap (λ l. record { at = d.at; level = l; around = c.around; form = c.form }) level
      ∙ ap (λ (xs : List ℕ). record { at = d.at; level = d.level; around = xs; form = c.form }) around
      ∙ ap (λ (h : LinearForm). record { at = d.at; level = d.level; around = d.around; form = h }) form
    where
      inside : {x y : LinearForm} → Some x ≡ Some y → x ≡ y
      inside e = cc

      place : (k x : ℕ) → k < length c.around → get_or c.around k x ≡ get_or d.around k x
      place k x l =
          let below : k < 3 = omega arith in
          get_or_default c.around k x 0 l
          ∙ one_around G ls nest d.at k (slice_index c.around k) (slice_index d.around k) (subst (λ u. IsAround ls u k (slice_index c.around k)) e (f.around k below)) (g.around k below)
          ∙ get_or_default d.around k 0 x (omega arith)

  -- each address that has a duty in one list has one in the other
  has_other : (body : List ℕ) (cs ds : List Duty) → AreDuties ls body B at cs → AreDuties ls body B at ds → (c : Duty) → Contains cs c → Contains (map (λ (d : Duty). d.at) ds) c.at
  has_other body cs ds f g c i = let e = f.each c i in g.every c.at c.form e.0 (e.1).form

  same_duties : (body : List ℕ) (cs ds : List Duty) → AreDuties ls body B at cs → AreDuties ls body B at ds → All (λ (d : Duty). length d.around ≡ 3) cs → All (λ (d : Duty). length d.around ≡ 3) ds → cs ≡ ds
  same_duties body cs ds f g m n =
      same_keyed (λ (d : Duty). d.at) cs ds
      (same_keys (λ (d : Duty). d.at) cs ds f.ordered g.ordered (has_other body cs ds f g) (has_other body ds cs g f))
      (λ c d i j e. same_duty c d (f.each c i).1 (g.each d j).1 e (sized cs m c i) (sized ds n d j))
    where
      sized : (xs : List Duty) → All (λ (d : Duty). length d.around ≡ 3) xs → (x : Duty) → Contains xs x → length x.around ≡ 3
      sized xs all x i = subst (λ (d : Duty). length d.around ≡ 3) i.2 (all i.0 x i.1)

-- ---- the whole

module _ (G : Graph) (ls : List Level) (C : CellMap) (e f : Equations) (two : AreAnswers G ls C e f) where
  abbrev nest : AreNest G ls
  nest = two.nest

  abbrev N : Nest
  N = nest_of G nest.root nest.inner

  abbrev B : LoopCode
  B = code_of G C

  this : IsNestOf G ls N
  this = record { root = nest.root; inner = nest.inner; are = nest.are; is = refl }

  roles : roles_by B ls two.second ≡ roles_by B ls two.first
  roles = sym (same_roles B ls two.first two.second two.alike)

  theirs : AreForms N B (roles_by B ls two.first) (form_at f.points)
  theirs = subst (λ (R : Level → ℕ → Role). AreForms N B R (form_at f.points)) roles (two.other.forms N this)

  pub same_form : (u r : ℕ) → form_at e.points u r ≡ form_at f.points u r
  same_form u r = by (has nest.root.body u) refl
    where
      by : (b : Bool) → has nest.root.body u ≡ b → form_at e.points u r ≡ form_at f.points u r
      by true h = one_solution N B (roles_by B ls two.first) (form_at e.points) (form_at f.points) nest.nest (two.one.forms N this) theirs u r h
      by false h =
          nowhere e.points u r (ap (λ xs. has xs u) (two.one.words N this) ∙ h)
          ∙ sym (nowhere f.points u r (ap (λ xs. has xs u) (two.other.words N this) ∙ h))

  forms : form_at f.points ≡ form_at e.points
  forms = fun_ext (λ u. fun_ext (λ r. sym (same_form u r)))

  pub same_unconfirmed : e.unconfirmed ≡ f.unconfirmed
  same_unconfirmed = least_is_one P P (λ r p. p) (λ r p. p) e.unconfirmed f.unconfirmed (two.one.unconfirmed N this) moved
    where
      P : ℕ → Type 0
      P = IsUnconfirmed N B (roles_by B ls two.first) (form_at e.points)

      moved : IsLeastLocation P f.unconfirmed
      moved =
          subst (λ (F : ℕ → ℕ → Option LinearForm). IsLeastLocation (IsUnconfirmed N B (roles_by B ls two.first) F) f.unconfirmed) forms
          (subst (λ (R : Level → ℕ → Role). IsLeastLocation (IsUnconfirmed N B R (form_at f.points)) f.unconfirmed) roles (two.other.unconfirmed N this))

  pub kept_duties : All (λ (d : Duty). length d.around ≡ 3) e.duties → All (λ (d : Duty). length d.around ≡ 3) f.duties → e.duties ≡ f.duties
  kept_duties m n =
      let own : AreDuties ls N.root.body B (form_at e.points) f.duties = subst (λ (F : ℕ → ℕ → Option LinearForm). AreDuties ls N.root.body B F f.duties) forms (two.other.duties N this) in
      same_duties G ls nest B (form_at e.points) N.root.body e.duties f.duties (two.one.duties N this) own m n

  pub same_equations : HasAllEntries e → HasAllEntries f → e ≡ f
  same_equations m n =
      let words : point_ats e.points ≡ point_ats f.points = two.one.words N this ∙ sym (two.other.words N this) in
      let up : IsStrictlyIncreasing (point_ats e.points) = subst IsStrictlyIncreasing (sym (two.one.words N this)) (nest.ordered nest.root (inl refl)) in
      let points = same_points e.points f.points words (apart_from_increasing (point_ats e.points) up) (λ u r i. same_form u r) m.points n.points in
      ap (λ (ps : List Point). record { points = ps; duties = e.duties; unconfirmed = e.unconfirmed }) points
      ∙ ap (λ (ds : List Duty). record { points = f.points; duties = ds; unconfirmed = e.unconfirmed }) (kept_duties m.duties n.duties)
      ∙ ap (λ (o : Option Loc). record { points = f.points; duties = f.duties; unconfirmed = o }) same_unconfirmed

pub one_form : OneFormLaw
one_form G ls C e f two u r = same_form G ls C e f two u r

pub one_unconfirmed : OneUnconfirmedLaw
one_unconfirmed G ls C e f two = same_unconfirmed G ls C e f two

pub one_duties : OneDutiesLaw
one_duties G ls C e f two m n = kept_duties G ls C e f two m n

pub one_equations : OneEquationsLaw
one_equations G ls C e f two m n = same_equations G ls C e f two m n
