-- What is read back from the parts of an image.
use Rattle.std.proofs.Common.{◌≡◌, ℕ, suc, ◌+◌, ◌*◌, ◌^◌, ◌<◌, ◌==◌, true, nat_eq, All, List, [], ◌∷◌, ◌++◌, length, get_or, refl, ap, sym, ◌∙◌, arith, append_assoc, length-append, codes}
use Rattle.std.proofs.lemmas.Bool.{and_from, le-leb}
use Rattle.std.specs.List.{flat_map, starts_with}
use Rattle.byteorder.specs.Numbers.{little_number-reads_back}
use Rattle.elf_image.specs.Header.{field}
use Rattle.image_writer.specs.declared.image.Entry.{Entry}
use Rattle.image_writer.specs.declared.record.Record.{Record}
use Rattle.image_writer.specs.Image.{number, mark_kind, mark_bytes, record_bytes, entry_bytes, word_bytes, IsEntry}
use Rattle.image_writer.specs.Split.{read_record, is_possible, IsPossible, is_record, entries_from, words_from}
use Rattle.image_writer.proofs.Fields.{field-past, field-first, length-number}

pub length-mark : (place size : ℕ) → length (mark_bytes place size) ≡ 56
unfolding mark_bytes number
length-mark place size = refl

pub mark-kind : (place size : ℕ) (rest : List ℕ) → field 4 0 (mark_bytes place size ++ rest) ≡ mark_kind
unfolding mark_bytes number field
mark-kind place size rest = refl

pub mark-offset : (place size : ℕ) (rest : List ℕ) → place < 256 ^ 8 → field 8 8 (mark_bytes place size ++ rest) ≡ place
unfolding mark_bytes number field
mark-offset place size rest h = little_number-reads_back 8 place [] h

pub length-record : (r : Record) → length (record_bytes r) ≡ 48
unfolding record_bytes number
length-record r = refl

-- each number of the record is below 2 ^ 64
pub record IsStated (r : Record) : Type 0 where
  pub size : r.size < 256 ^ 8
  pub phoff : r.phoff < 256 ^ 8
  pub phnum : r.phnum < 256 ^ 8
  pub entries : r.entries < 256 ^ 8
  pub words : r.words < 256 ^ 8

pub record-size : (r : Record) (rest : List ℕ) → r.size < 256 ^ 8 → field 8 8 (record_bytes r ++ rest) ≡ r.size
unfolding record_bytes number field
record-size r rest h = little_number-reads_back 8 r.size [] h

pub record-phoff : (r : Record) (rest : List ℕ) → r.phoff < 256 ^ 8 → field 8 16 (record_bytes r ++ rest) ≡ r.phoff
unfolding record_bytes number field
record-phoff r rest h = little_number-reads_back 8 r.phoff [] h

pub record-phnum : (r : Record) (rest : List ℕ) → r.phnum < 256 ^ 8 → field 8 24 (record_bytes r ++ rest) ≡ r.phnum
unfolding record_bytes number field
record-phnum r rest h = little_number-reads_back 8 r.phnum [] h

pub record-entries : (r : Record) (rest : List ℕ) → r.entries < 256 ^ 8 → field 8 32 (record_bytes r ++ rest) ≡ r.entries
unfolding record_bytes number field
record-entries r rest h = little_number-reads_back 8 r.entries [] h

pub record-words : (r : Record) (rest : List ℕ) → r.words < 256 ^ 8 → field 8 40 (record_bytes r ++ rest) ≡ r.words
unfolding record_bytes number field
record-words r rest h = little_number-reads_back 8 r.words [] h

pub record-read : (r : Record) (rest : List ℕ) → IsStated r → read_record (record_bytes r ++ rest) ≡ r
record-read r rest h =
    rw (record-size r rest h.size, record-phoff r rest h.phoff, record-phnum r rest h.phnum, record-entries r rest h.entries, record-words r rest h.words) refl

record-version : (r : Record) (rest : List ℕ) → (field 4 4 (record_bytes r ++ rest) == 1) ≡ true
unfolding record_bytes number field
record-version r rest = refl

record-name : (r : Record) (rest : List ℕ) → starts_with nat_eq (record_bytes r ++ rest) (codes "XPAR") ≡ true
unfolding record_bytes
record-name r rest = refl

pub possible : (size : ℕ) (rest : List ℕ) (r : Record) → IsPossible size rest r → is_possible size rest r ≡ true
possible size rest r h =
    and_from _ _ (and_from _ _ (and_from _ _ (le-leb _ _ h.long) (le-leb _ _ h.within)) (le-leb _ _ h.few)) (le-leb _ _ h.room)

pub record-is : (size : ℕ) (r : Record) (rest : List ℕ) → IsStated r → IsPossible size (record_bytes r ++ rest) r → is_record size (record_bytes r ++ rest) ≡ true
unfolding is_record
record-is size r rest h p =
    let whole = length-append (record_bytes r) rest in
    let own = length-record r in
    let fits : is_possible size (record_bytes r ++ rest) (read_record (record_bytes r ++ rest)) ≡ true =
    ap (λ (q : Record). is_possible size (record_bytes r ++ rest) q) (record-read r rest h) ∙ possible size (record_bytes r ++ rest) r p in
    and_from _ _ (and_from _ _ (and_from _ _ (le-leb 48 _ (omega (arith, whole, own))) (record-name r rest)) (record-version r rest)) fits

pub length-entries : (entries : List Entry) → length (flat_map entry_bytes entries) ≡ 16 * length entries
unfolding entry_bytes number
length-entries [] = refl
length-entries (e ∷ es) = let rest = length-entries es in omega (arith, rest)

pub length-words : (code : List ℕ) → length (flat_map word_bytes code) ≡ 4 * length code
unfolding word_bytes number
length-words [] = refl
length-words (w ∷ ws) = let rest = length-words ws in omega (arith, rest)

length-entry : (e : Entry) → length (entry_bytes e) ≡ 16
unfolding entry_bytes number
length-entry e = refl

word-first : (w : ℕ) (rest : List ℕ) → w < 2 ^ 32 → field 4 0 (word_bytes w ++ rest) ≡ w
unfolding word_bytes
word-first w rest h = field-first 4 w rest h

length-word : (w : ℕ) → length (word_bytes w) ≡ 4
unfolding word_bytes number
length-word w = refl

entry-header : (e : Entry) (front back : List ℕ) (p : ℕ) → length front ≡ p → IsEntry e → field 8 p (front ++ (entry_bytes e ++ back)) ≡ e.header
unfolding entry_bytes
entry-header e front back p len fit =
    field-past 8 p 0 p front _ len (omega arith) ∙ rw append_assoc (field-first 8 e.header _ fit.0)

entry-stub : (e : Entry) (front back : List ℕ) (p : ℕ) → length front ≡ p → IsEntry e → field 8 (p + 8) (front ++ (entry_bytes e ++ back)) ≡ e.stub
unfolding entry_bytes
entry-stub e front back p len fit =
    field-past 8 p 8 (p + 8) front _ len refl ∙ rw append_assoc (field-past 8 8 0 8 (number 8 e.header) _ (length-number 8 e.header) refl ∙ field-first 8 e.stub _ fit.1)

-- the entries, read back from their bytes
pub entries-read : (entries : List Entry) (front back : List ℕ) (p : ℕ) → length front ≡ p → All IsEntry entries
    → entries_from (front ++ (flat_map entry_bytes entries ++ back)) p (length entries) ≡ entries
entries-read [] front back p len fit = refl
entries-read (e ∷ es) front back p len fit =
    let here : IsEntry e = fit 0 e (omega arith) in
    let next : length (front ++ entry_bytes e) ≡ p + 16 =
    let a = length-append front (entry_bytes e) in let b = length-entry e in omega (arith, a, b) in
    let rest = entries-read es (front ++ entry_bytes e) back (p + 16) next (λ k d h. fit (suc k) d (omega arith)) in
    let bytes : List ℕ = front ++ (entry_bytes e ++ (flat_map entry_bytes es ++ back)) in
    let header = entry-header e front (flat_map entry_bytes es ++ back) p len here in
    let stub = entry-stub e front (flat_map entry_bytes es ++ back) p len here in
    let moved : entries_from bytes (p + 16) (length es) ≡ es =
    ap (λ (xs : List ℕ). entries_from xs (p + 16) (length es)) (sym (append_assoc front (entry_bytes e) (flat_map entry_bytes es ++ back))) ∙ rest in
    let whole : front ++ (flat_map entry_bytes (e ∷ es) ++ back) ≡ bytes =
    ap (λ (xs : List ℕ). front ++ xs) (append_assoc (entry_bytes e) (flat_map entry_bytes es) back) in
    ap (λ (xs : List ℕ). entries_from xs p (suc (length es))) whole ∙ rw (header, stub, moved) refl

-- the words, read back from their bytes
pub words-read : (code : List ℕ) (front : List ℕ) (p : ℕ) → length front ≡ p → ((i : ℕ) → get_or code i 0 < 2 ^ 32)
    → words_from (front ++ flat_map word_bytes code) p (length code) ≡ code
words-read [] front p len fit = refl
words-read (w ∷ ws) front p len fit =
    let next : length (front ++ word_bytes w) ≡ p + 4 =
    let a = length-append front (word_bytes w) in let b = length-word w in omega (arith, a, b) in
    let rest = words-read ws (front ++ word_bytes w) (p + 4) next (λ i. fit (suc i)) in
    let bytes : List ℕ = front ++ (word_bytes w ++ flat_map word_bytes ws) in
    let first : field 4 p bytes ≡ w = field-past 4 p 0 p front _ len (omega arith) ∙ word-first w (flat_map word_bytes ws) (fit 0) in
    let moved : words_from bytes (p + 4) (length ws) ≡ ws =
    ap (λ (xs : List ℕ). words_from xs (p + 4) (length ws)) (sym (append_assoc front (word_bytes w) (flat_map word_bytes ws))) ∙ rest in
    rw (first, moved) refl
