-- The file of a sample: an ELF header, two program headers, and the words of the program at offset 176, which
-- is address 0x100B0. All numbers are little-endian.
use Rattle.std.specs.Prelude.{ℕ, ◌≡◌, ◌<◌, ◌+◌, ◌*◌, List, ◌++◌, length, replicate, codes, ◌∷◌}
use Rattle.std.specs.List.{flat_map}
use Rattle.byteorder.specs.Endian.{little_bytes}
use Rattle.sample_maker.specs.declared.Kind.{Kind}
use Rattle.sample_maker.specs.declared.Kind.TheVariants.{Vadd, Stencil, Bytemap}
use Rattle.sample_maker.specs.declared.SampleErr.{SampleErr}
use Rattle.sample_maker.specs.declared.SampleErr.TheVariants.{TooLarge, OutOfMemory}
use Rattle.sample_maker.specs.Programs.{words_of, data_size}

-- a number in k bytes
unfoldable pub number : ℕ → ℕ → List ℕ
number k value = little_bytes k value

-- the first 16 bytes: the file is ELF, of 64 bits, little-endian, of version 1
abbrev pub ident : List ℕ
ident = 0x7F ∷ codes "ELF" ++ (2 ∷ 1 ∷ 1 ∷ replicate 9 0)

-- the ELF header: e_ident, e_type (executable), e_machine (RISC-V), e_version, e_entry, e_phoff, e_shoff, e_flags,
-- e_ehsize, e_phentsize, e_phnum, e_shentsize, e_shnum and e_shstrndx
unfoldable pub file_header : List ℕ
file_header =
    ident ++ (number 2 2 ++ (number 2 243 ++ (number 4 1 ++ (number 8 0x1_00B0 ++ (number 8 64 ++ (number 8 0
    ++ (number 4 0 ++ (number 2 64 ++ (number 2 56 ++ (number 2 2 ++ (number 2 0 ++ (number 2 0
    ++ number 2 0))))))))))))

-- a program header: type (load), flags, offset, vaddr, paddr, filesz, memsz and align
unfoldable pub program_header : (flags address stored size : ℕ) → List ℕ
program_header flags address stored size =
    number 4 1 ++ (number 4 flags ++ (number 8 0 ++ (number 8 address ++ (number 8 address
    ++ (number 8 stored ++ (number 8 size ++ number 8 4096))))))

unfoldable pub word_bytes : ℕ → List ℕ
word_bytes word = number 4 word

-- the file's length: the headers, and 4 bytes a word
abbrev pub file_size : List ℕ → ℕ
file_size words = 176 + 4 * length words

-- the file of a program with so many bytes of data: a segment that is read and executed, which is the whole file,
-- and one that is read and written, of which the file has nothing
unfoldable pub file_of : List ℕ → ℕ → List ℕ
file_of words data_bytes =
    file_header
    ++ (program_header 5 0x1_0000 (file_size words) (file_size words)
    ++ (program_header 6 0x2_0000 0 data_bytes ++ flat_map word_bytes words))

-- the sample of a kind and size
abbrev pub sample_bytes : Kind → ℕ → List ℕ
sample_bytes kind n = file_of (words_of kind n) (data_size kind n)

-- the largest size of a kind
abbrev pub limit : Kind → ℕ
limit Vadd = 1000000
limit Stencil = 2000
limit Bytemap = 16000000

-- the size passes its limit, and is given back; of want of memory nothing is said
abbrev pub IsRefused : Kind → ℕ → SampleErr → Type 0
IsRefused kind n (TooLarge m) = (limit kind < n) × (m ≡ n)
IsRefused kind n OutOfMemory = Unit {0}
