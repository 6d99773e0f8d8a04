-- The classes of a loop, found by its header.
use Rattle.std.proofs.Common.{◌≡◌, ◌≢◌, ℕ, zero, suc, ◌<◌, if◌then◌else◌, List, [], ◌∷◌, length, get_or, drop, Option, refl, ap, sym, ◌∙◌, arith}
use Rattle.loop_data.specs.declared.classes.Class.{Class}
use Rattle.loop_data.specs.declared.shape.Level.{Level}
use Rattle.loop_data.specs.Lookups.{classes_of}
use Rattle.loop_data.proofs.Tests.{is_eq, is_ne}

no_rows : (ms : List Level) (l : Level) → classes_of ms [] l ≡ []
no_rows [] l = refl
no_rows (m ∷ ms) l = refl

-- a loop with another header is passed
pub class_passed : (ms : List Level) (rows : List (List (Option Class))) (i : ℕ) (l m : Level) → i < length ms → m ≡ get_or ms i m → m.header ≢ l.header
    → classes_of (drop i ms) (drop i rows) l ≡ classes_of (drop (suc i) ms) (drop (suc i) rows) l
class_passed [] rows i l m lt e ne = absurd (omega arith)
class_passed (x ∷ xs) [] zero l m lt e ne = sym (no_rows xs l)
class_passed (x ∷ xs) (row ∷ rows) zero l m lt e ne =
    ap (λ b. if b then row else classes_of xs rows l) (is_ne x.header l.header (λ q. ne (ap (λ (z : Level). z.header) e ∙ q)))
class_passed (x ∷ xs) [] (suc i) l m lt e ne = no_rows (drop i xs) l ∙ sym (no_rows (drop (suc i) xs) l)
class_passed (x ∷ xs) (row ∷ rows) (suc i) l m lt e ne = class_passed xs rows i l m (omega arith) e ne

-- a loop with this header has its row
pub class_found : (ms : List Level) (rows : List (List (Option Class))) (i : ℕ) (l m : Level) → i < length ms → m ≡ get_or ms i m → m.header ≡ l.header
    → classes_of (drop i ms) (drop i rows) l ≡ get_or rows i []
class_found [] rows i l m lt e q = absurd (omega arith)
class_found (x ∷ xs) [] zero l m lt e q = refl
class_found (x ∷ xs) (row ∷ rows) zero l m lt e q =
    ap (λ b. if b then row else classes_of xs rows l) (is_eq x.header l.header (sym (ap (λ (z : Level). z.header) e) ∙ q))
class_found (x ∷ xs) [] (suc i) l m lt e q = no_rows (drop i xs) l
class_found (x ∷ xs) (row ∷ rows) (suc i) l m lt e q = class_found xs rows i l m (omega arith) e q
