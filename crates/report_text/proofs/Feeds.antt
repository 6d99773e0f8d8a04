-- The line of a loop has one line feed, at its end.
use Rattle.std.proofs.Common.{ℕ, zero, suc, ◌≡◌, ◌+◌, ◌-◌, ◌/◌, ◌%◌, ◌||◌, ◌==◌, nat_lt, if◌then◌else◌, Bool, true, false, List, [], ◌∷◌, ◌++◌, length, take, drop, replicate, codes, decimal, Option, Some, None, ℤ, pos, negsuc, refl, sym, ap, ap₂, ◌∙◌, append_assoc, arith}
use Rattle.std.proofs.lemmas.Bool.{ne_eqb}
use Rattle.std.proofs.lemmas.List.Folds.{list_any-append}
use Rattle.std.specs.Prelude.{slice_index_or}
use Rattle.std.specs.Fmt.{digits, digits_onto, digit_glyph, padded_integral, char_count, signed_decimal}
use Rattle.linear_forms.specs.declared.location.Loc.{Loc}
use Rattle.linear_forms.specs.declared.location.Loc.TheVariants.{Reg, Cell as OfCell}
use Rattle.loop_data.specs.declared.verdict.Cell.{Cell}
use Rattle.loop_data.specs.declared.verdict.Verdict.{Verdict}
use Rattle.loop_data.specs.declared.verdict.Verdict.TheVariants.{MultiEntry, Limit, Call, System, Indirect, Unsupported, Shape}
use Rattle.loop_data.specs.declared.verdict.Verdict.TheVariants.{MixedCell, Carried, NoTrip, Irregular, Dependence, Parallel}
use Rattle.report_text.specs.Lines.{hex8, verdict_at, cell_bytes, base_text, cell_text, carried_text, entries_text, distance_text}
use Rattle.report_text.specs.Lines.{verdict_text}
use Rattle.report_text.specs.LineLaws.{HasNoFeed, OneLineLaw}

joined : (xs ys : List ℕ) → HasNoFeed xs → HasNoFeed ys → HasNoFeed (xs ++ ys)
joined xs ys a b = list_any-append (λ c. c == 10) xs ys ∙ ap₂ (λ (p q : Bool). p || q) a b

either : (b : Bool) (xs ys : List ℕ) → HasNoFeed xs → HasNoFeed ys → HasNoFeed (if b then xs else ys)
either true xs ys a b = a
either false xs ys a b = b

-- ---- numbers

no_feed_by : (b : Bool) (d : ℕ) → (if b then 48 + d else 87 + d) ≡ 10 → ⊥
no_feed_by true d e = omega arith
no_feed_by false d e = omega arith

glyph : (d : ℕ) → (digit_glyph false d == 10) ≡ false
glyph d = ne_eqb (digit_glyph false d) 10 (no_feed_by (nat_lt d 10) d)

onto : (k base n : ℕ) (acc : List ℕ) → HasNoFeed acc → HasNoFeed (digits_onto k base false n acc)
onto zero base n acc h = h
onto (suc k) base n acc h =
    let next : HasNoFeed (digit_glyph false (n % base) ∷ acc) = ap₂ (λ (p q : Bool). p || q) (glyph (n % base)) h in
    either (n / base == 0) (digit_glyph false (n % base) ∷ acc)
    (digits_onto k base false (n / base) (digit_glyph false (n % base) ∷ acc)) next
    (onto k base (n / base) (digit_glyph false (n % base) ∷ acc) next)

of_digits : (base n : ℕ) → HasNoFeed (digits base false n)
unfolding digits
of_digits base n = onto 64 base n [] refl

of_signed : (z : ℤ) → HasNoFeed (signed_decimal z)
of_signed (pos n) = of_digits 10 n
of_signed (negsuc n) = of_digits 10 (suc n)

zeros : (k : ℕ) → HasNoFeed (replicate k 48)
zeros zero = refl
zeros (suc k) = zeros k

of_hex8 : (n : ℕ) → HasNoFeed (hex8 n)
unfolding padded_integral char_count
of_hex8 n =
    let ds = digits 16 false n in
    joined (replicate (8 - length ds - 0 - 0) 48) (ds ++ []) (zeros (8 - length ds - 0 - 0))
    (joined ds [] (of_digits 16 n) refl)

-- ---- verdicts

at : (name : List ℕ) (n : ℕ) → HasNoFeed name → HasNoFeed (verdict_at name n)
at name n h = joined name (codes " 0x" ++ hex8 n) h (joined (codes " 0x") (hex8 n) refl (of_hex8 n))

of_base : (base : Option ℕ) → HasNoFeed (base_text base)
of_base (Some base) = joined (codes "x") (decimal base) refl (of_digits 10 base)
of_base None = refl

of_cell : (cell : Cell) → HasNoFeed (cell_text cell)
of_cell cell =
    let bytes = joined (codes " ") (decimal (cell_bytes cell)) refl (of_digits 10 (cell_bytes cell)) in
    let offset = joined (signed_decimal cell.offset) (codes " " ++ decimal (cell_bytes cell)) (of_signed cell.offset) bytes in
    let tail = joined (codes " ") (signed_decimal cell.offset ++ (codes " " ++ decimal (cell_bytes cell))) refl offset in
    joined (base_text cell.base) (codes " " ++ (signed_decimal cell.offset ++ (codes " " ++ decimal (cell_bytes cell))))
    (of_base cell.base) tail

of_carried : (loc : Loc) (cell : Option Cell) → HasNoFeed (carried_text loc cell)
of_carried (Reg register) cell = joined (codes "carried x") (decimal register) refl (of_digits 10 register)
of_carried (OfCell number) (Some cell) = joined (codes "carried cell ") (cell_text cell) refl (of_cell cell)
of_carried (OfCell number) None = refl

of_entries : (entries : List ℤ) → HasNoFeed (entries_text entries)
of_entries [] = refl
of_entries (entry ∷ entries) = joined (codes ", " ++ signed_decimal entry) (entries_text entries)
    (joined (codes ", ") (signed_decimal entry) refl (of_signed entry)) (of_entries entries)

of_distance : (common : ℕ) (distance : Option (List ℤ)) → HasNoFeed (distance_text common distance)
of_distance common None = refl
of_distance common (Some entries) =
    let inner = entries_text (take common (drop 1 entries)) in
    let root = signed_decimal (slice_index_or entries 0 (pos 0)) in
    let tail = joined inner (codes ")") (of_entries (take common (drop 1 entries))) refl in
    joined (codes "(") (root ++ (inner ++ codes ")")) refl
    (joined root (inner ++ codes ")") (of_signed (slice_index_or entries 0 (pos 0))) tail)

of_pair : (first second : ℕ) (text : List ℕ) → HasNoFeed text
    → HasNoFeed (hex8 first ++ (codes " 0x" ++ (hex8 second ++ text)))
of_pair first second text h = joined (hex8 first) (codes " 0x" ++ (hex8 second ++ text)) (of_hex8 first)
    (joined (codes " 0x") (hex8 second ++ text) refl (joined (hex8 second) text (of_hex8 second) h))

of_verdict : (verdict : Verdict) (chosen : Bool) → HasNoFeed (verdict_text verdict chosen)
of_verdict (MultiEntry from to) chosen = joined (codes "multi-entry 0x") (hex8 from ++ (codes " -> 0x" ++ hex8 to)) refl
    (joined (hex8 from) (codes " -> 0x" ++ hex8 to) (of_hex8 from) (joined (codes " -> 0x") (hex8 to) refl (of_hex8 to)))
of_verdict (Limit a) chosen = at (codes "limit") a refl
of_verdict (Call a) chosen = at (codes "call") a refl
of_verdict (System a) chosen = at (codes "system") a refl
of_verdict (Indirect a) chosen = at (codes "indirect") a refl
of_verdict (Unsupported a) chosen = at (codes "unsupported") a refl
of_verdict (Shape a) chosen = at (codes "shape") a refl
of_verdict (MixedCell a) chosen = at (codes "mixed-cell") a refl
of_verdict (Carried loc cell) chosen = of_carried loc cell
of_verdict (NoTrip a) chosen = at (codes "no-trip") a refl
of_verdict (Irregular a) chosen = at (codes "irregular") a refl
of_verdict (Dependence first second common distance) chosen =
    let tail = joined (codes " distance ") (distance_text common distance) refl (of_distance common distance) in
    joined (codes "dependence 0x")
    (hex8 first ++ (codes " 0x" ++ (hex8 second ++ (codes " distance " ++ distance_text common distance)))) refl
    (of_pair first second (codes " distance " ++ distance_text common distance) tail)
of_verdict Parallel true = refl
of_verdict Parallel false = refl

-- ---- lines

pub one_line : OneLineLaw
one_line judged chosen =
    let start = codes "loop 0x" in
    let header = hex8 judged.header in
    let blank = codes " " in
    let verdict = verdict_text judged.verdict chosen in
    record {
      text = start ++ (header ++ (blank ++ verdict));
      is = sym (append_assoc start (header ++ (blank ++ verdict)) (10 ∷ [])
          ∙ ap (λ (v : List ℕ). start ++ v) (append_assoc header (blank ++ verdict) (10 ∷ [])
          ∙ ap (λ (v : List ℕ). header ++ v) (append_assoc blank verdict (10 ∷ []))));
      no_feed = joined start (header ++ (blank ++ verdict)) refl (joined header (blank ++ verdict) (of_hex8 judged.header)
          (joined blank verdict refl (of_verdict judged.verdict chosen)));
    }
