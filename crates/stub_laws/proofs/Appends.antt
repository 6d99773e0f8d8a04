-- Words appended to words.
use Rattle.std.proofs.Common.{◌≡◌, ℕ, ◌+◌, ◌<◌, ◌≤◌, suc, refl, sym, subst, ap, ◌∙◌, List, [], ◌∷◌, ◌++◌, Some, append_assoc, length, get_or, drop, add-one}
use Rattle.std.proofs.lemmas.List.{append-nil, drop_all}
use Rattle.std.proofs.Math.Seq.{drop-cons}
use Rattle.rv64_decode.specs.declared.xinstr.XInstr.{XInstr}
use Rattle.rv64_decode.specs.XTable.{MeansX, decoded_x}
use Rattle.rv64_decode.proofs.XDecodes.{means_x_decoded}
use Rattle.stub_laws.specs.Code.{readings, somes, Appended}

readings-append : (xs ys : List ℕ) → readings (xs ++ ys) ≡ readings xs ++ readings ys
unfolding readings
readings-append [] ys = refl
readings-append (x ∷ xs) ys = ap (λ l. decoded_x x ∷ l) (readings-append xs ys)

somes-append : (is js : List XInstr) → somes (is ++ js) ≡ somes is ++ somes js
unfolding somes
somes-append [] js = refl
somes-append (i ∷ is) js = ap (λ l. Some i ∷ l) (somes-append is js)

one_reading : (w : ℕ) (i : XInstr) → MeansX w i → readings (w ∷ []) ≡ somes (i ∷ [])
unfolding readings somes
one_reading w i m = ap (λ o. o ∷ []) (means_x_decoded w i m)

no_reading : readings [] ≡ somes []
unfolding readings somes
no_reading = refl

pub one_word : (old new : List ℕ) (w : ℕ) (i : XInstr) → new ≡ old ++ w ∷ [] → MeansX w i → Appended old new (i ∷ [])
one_word old new w i e m = record { added = w ∷ []; new_is = e; stand = one_reading w i m }

pub no_word : (old : List ℕ) → Appended old old []
no_word old = record { added = []; new_is = sym (append-nil old); stand = no_reading }

pub joined : (a b c : List ℕ) (is js : List XInstr) → Appended a b is → Appended b c js → Appended a c (is ++ js)
joined a b c is js x y = record {
  added = x.added ++ y.added;
  new_is = y.new_is ∙ ap (λ l. l ++ y.added) x.new_is ∙ append_assoc a x.added y.added;
  stand = readings-append x.added y.added ∙ ap (λ l. l ++ readings y.added) x.stand ∙ ap (λ l. somes is ++ l) y.stand ∙ sym (somes-append is js);
}

pub joined_as : (a b c : List ℕ) (is js ks : List XInstr) → Appended a b is → Appended b c js → is ++ js ≡ ks → Appended a c ks
joined_as a b c is js ks x y e = subst (Appended a c) e (joined a b c is js x y)

pub as_list : (a b : List ℕ) (is js : List XInstr) → Appended a b is → is ≡ js → Appended a b js
as_list a b is js x e = subst (Appended a b) e x

-- one turn of a loop over a list
pub one_turn : {X : Type 0} (code : X → List X → List XInstr) (all : List X → List XInstr) → ((x : X) (xs : List X) → all (x ∷ xs) ≡ code x xs ++ all xs) → (a b fin : List ℕ) (xs : List X) (k : ℕ) (d : X) → k < length xs → Appended a b (code (get_or xs k d) (drop (suc k) xs)) → Appended b fin (all (drop (k + 1) xs)) → Appended a fin (all (drop k xs))
one_turn code all law a b fin xs k d h p q =
    let e = law (get_or xs k d) (drop (suc k) xs) in
    let q' : Appended b fin (all (drop (suc k) xs)) = subst (λ n. Appended b fin (all (drop n xs))) (add-one k) q in
    subst (λ l. Appended a fin (all l)) (sym (drop-cons xs k d h)) (subst (Appended a fin) (sym e) (joined a b fin _ _ p q'))

pub last_turn : {X : Type 0} (all : List X → List XInstr) (is : List XInstr) → all [] ≡ is → (a fin : List ℕ) (xs : List X) (k : ℕ) → length xs ≤ k → Appended a fin is → Appended a fin (all (drop k xs))
last_turn all is law a fin xs k h p = subst (λ l. Appended a fin (all l)) (sym (drop_all k xs h)) (subst (Appended a fin) (sym law) p)

-- words appended to none are all the words
pub fresh : (old new : List ℕ) (is : List XInstr) → old ≡ [] → Appended old new is → readings new ≡ somes is
fresh old new is e x = ap readings (x.new_is ∙ ap (λ l. l ++ x.added) e) ∙ x.stand
