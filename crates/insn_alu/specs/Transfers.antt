-- Loads and stores: what they access, what a load finishes, and what a store stores (Power ISA 2.06, Book I, sections 3.3.1 to
-- 3.3.5, and Book II, chapter 4).
use Rattle.std.specs.Prelude.{◌≡◌, ℕ, zero, suc, ◌+◌, ◌-◌, ◌*◌, ◌%◌, ◌^◌, ◌≤◌, Bool, true, false, Option, Some, None, List, [], ◌∷◌, ◌++◌, length, take, drop, replicate, slice_index, if◌then◌else◌}
use Rattle.std.specs.Bool.{MatchBool}
use Rattle.std.specs.List.{flat_map}
use Rattle.std.specs.Option.{option_or}
use Rattle.std.specs.Int.{w16, w32, cast_signed, cast_unsigned, from_be_bytes, from_le_bytes, to_be_bytes, to_le_bytes}
use Rattle.insn.specs.declared.instruction.Op.{Op}
use Rattle.insn.specs.declared.instruction.Op.TheVariants as op
use Rattle.insn.specs.Fields.{rt_field, ra_field, rb_field}
use Rattle.guest_regs.specs.Registers.{Registers, indexed_address, with_gpr, advanced}
use Rattle.insn_alu.specs.declared.effect.Form.{Form}
use Rattle.insn_alu.specs.declared.effect.Form.TheVariants as form
use Rattle.insn_alu.specs.declared.effect.Access.{Access}
use Rattle.insn_alu.specs.declared.effect.Effect.{Effect}
use Rattle.insn_alu.specs.declared.effect.Effect.TheVariants.{Memory, Illegal}
use Rattle.insn_alu.specs.declared.transfer.Transfer.{Transfer}
use Rattle.insn_alu.specs.declared.transfer.Addressing.{Addressing}
use Rattle.insn_alu.specs.declared.transfer.Addressing.TheVariants.{Displaced, DisplacedUpdate, Indexed, IndexedUpdate}
use Rattle.insn_alu.specs.declared.transfer.Kind.{Kind}
use Rattle.insn_alu.specs.declared.transfer.Kind.TheVariants.{Byte, Half, SignedHalf, Word, ReversedHalf, ReversedWord, Words, Exclusive, Block}
use Rattle.insn_alu.specs.Fields.{summary, with_field, a_of, b_of, s_of, base_of, extended_immediate}

abbrev load : Addressing → Kind → Option Transfer
load addressing kind = Some (record { addressing = addressing; kind = kind; store = false })

abbrev store : Addressing → Kind → Option Transfer
store addressing kind = Some (record { addressing = addressing; kind = kind; store = true })

-- what a load takes from storage, and how its address is found
unfoldable pub load_of : Op → Option Transfer
load_of op.Lbz = load Displaced Byte
load_of op.Lbzx = load Indexed Byte
load_of op.Lbzu = load DisplacedUpdate Byte
load_of op.Lbzux = load IndexedUpdate Byte
load_of op.Lhz = load Displaced Half
load_of op.Lhzx = load Indexed Half
load_of op.Lhzu = load DisplacedUpdate Half
load_of op.Lhzux = load IndexedUpdate Half
load_of op.Lha = load Displaced SignedHalf
load_of op.Lhax = load Indexed SignedHalf
load_of op.Lhau = load DisplacedUpdate SignedHalf
load_of op.Lhaux = load IndexedUpdate SignedHalf
load_of op.Lwz = load Displaced Word
load_of op.Lwzx = load Indexed Word
load_of op.Lwzu = load DisplacedUpdate Word
load_of op.Lwzux = load IndexedUpdate Word
load_of op.Lhbrx = load Indexed ReversedHalf
load_of op.Lwbrx = load Indexed ReversedWord
load_of op.Lmw = load Displaced Words
load_of op.Lwarx = load Indexed Exclusive
load_of _ = None

-- what a store puts there
unfoldable pub store_of : Op → Option Transfer
store_of op.Stb = store Displaced Byte
store_of op.Stbx = store Indexed Byte
store_of op.Stbu = store DisplacedUpdate Byte
store_of op.Stbux = store IndexedUpdate Byte
store_of op.Sth = store Displaced Half
store_of op.Sthx = store Indexed Half
store_of op.Sthu = store DisplacedUpdate Half
store_of op.Sthux = store IndexedUpdate Half
store_of op.Stw = store Displaced Word
store_of op.Stwx = store Indexed Word
store_of op.Stwu = store DisplacedUpdate Word
store_of op.Stwux = store IndexedUpdate Word
store_of op.Sthbrx = store Indexed ReversedHalf
store_of op.Stwbrx = store Indexed ReversedWord
store_of op.Stmw = store Displaced Words
store_of op.Stwcx = store Indexed Exclusive
store_of op.Dcbz = store Indexed Block
store_of _ = None

-- what an instruction moves between registers and storage, if it is one of them
abbrev pub transfer_of : Op → Option Transfer
transfer_of operation = option_or (load_of operation) (store_of operation)

-- the effective address (section 1.10.3). An update form takes (RA) also where RA is 0.
unfoldable pub effective : Addressing → ℕ → Registers → ℕ
effective Displaced word registers = (base_of word registers + extended_immediate word) % 2 ^ 32
effective DisplacedUpdate word registers = (a_of word registers + extended_immediate word) % 2 ^ 32
effective Indexed word registers = indexed_address registers (ra_field word) (rb_field word)
effective IndexedUpdate word registers = (a_of word registers + b_of word registers) % 2 ^ 32

-- how many bytes: lmw and stmw have a word for each register from RT on
abbrev pub size_of : Kind → ℕ → ℕ
size_of Byte word = 1
size_of Half word = 2
size_of SignedHalf word = 2
size_of Word word = 4
size_of ReversedHalf word = 2
size_of ReversedWord word = 4
size_of Words word = 4 * (32 - rt_field word)
size_of Exclusive word = 4
size_of Block word = 64

abbrev pub form_of : Kind → Bool → Form
form_of Words store = form.Many
form_of Exclusive store = if store then form.Conditional else form.Reserve
form_of Block store = form.Zero
form_of _ store = if store then form.Store else form.Load

-- dcbz takes the whole block of 64 bytes that its address is in
abbrev pub first_byte : Kind → ℕ → ℕ
first_byte Block address = address - address % 64
first_byte _ address = address

unfoldable pub accessed : Transfer → ℕ → Registers → Access
accessed transfer word registers = record {
  ea = first_byte transfer.kind (effective transfer.addressing word registers);
  len = size_of transfer.kind word;
  form = form_of transfer.kind transfer.store;
  store = transfer.store;
}

-- an update form gives RA the address
abbrev pub updated : Addressing → ℕ → ℕ → Registers → Registers
updated Displaced word address registers = registers
updated DisplacedUpdate word address registers = with_gpr registers (ra_field word) address
updated Indexed word address registers = registers
updated IndexedUpdate word address registers = with_gpr registers (ra_field word) address

-- so many words, the most significant byte of each first
abbrev pub words_in : ℕ → List ℕ → List ℕ
words_in zero bytes = []
words_in (suc more) bytes = from_be_bytes w32 (take 4 bytes) ∷ words_in more (drop 4 bytes)

-- what a load of one register makes of the bytes
abbrev pub loaded : Kind → List ℕ → ℕ
loaded Byte bytes = slice_index bytes 0
loaded Half bytes = from_be_bytes w16 bytes
loaded SignedHalf bytes = cast_unsigned w32 (cast_signed w16 (from_be_bytes w16 bytes))
loaded Word bytes = from_be_bytes w32 bytes
loaded ReversedHalf bytes = from_le_bytes w16 bytes
loaded ReversedWord bytes = from_le_bytes w32 bytes
loaded Exclusive bytes = from_be_bytes w32 bytes
loaded _ bytes = 0

-- lmw fills the registers from RT to 31; every other load fills RT
unfoldable pub filled : Kind → ℕ → List ℕ → Registers → Registers
filled Words word bytes registers =
    record registers { gpr = take (rt_field word) registers.gpr ++ words_in (32 - rt_field word) bytes }
filled kind word bytes registers = with_gpr registers (rt_field word) (loaded kind bytes)

-- stwcx. reports in CR0 whether it stored: 0, 0, that, SO. Its one byte is 1 where it did.
unfoldable pub reported : Kind → List ℕ → Registers → Registers
reported Exclusive bytes registers = record registers { cr = with_field registers.cr 0 (2 * slice_index bytes 0 + summary registers) }
reported _ bytes registers = registers

-- The registers after an access that was made. The address was found before, and goes to RA last.
unfoldable pub finished : Transfer → ℕ → List ℕ → Registers → Registers
finished transfer word bytes registers =
    let moved : Registers = if transfer.store then reported transfer.kind bytes registers else filled transfer.kind word bytes registers in
    advanced (updated transfer.addressing word (effective transfer.addressing word registers) moved)

-- the bytes that a store puts into storage
unfoldable pub stored_bytes : Kind → ℕ → Registers → List ℕ
stored_bytes Byte word registers = (s_of word registers % 2 ^ 8) ∷ []
stored_bytes Half word registers = to_be_bytes w16 (s_of word registers % 2 ^ 16)
stored_bytes SignedHalf word registers = to_be_bytes w16 (s_of word registers % 2 ^ 16)
stored_bytes Word word registers = to_be_bytes w32 (s_of word registers)
stored_bytes ReversedHalf word registers = to_le_bytes w16 (s_of word registers % 2 ^ 16)
stored_bytes ReversedWord word registers = to_le_bytes w32 (s_of word registers)
stored_bytes Words word registers = flat_map (to_be_bytes w32) (drop (rt_field word) registers.gpr)
stored_bytes Exclusive word registers = to_be_bytes w32 (s_of word registers)
stored_bytes Block word registers = replicate 64 0

-- what exec answers for a load or store
abbrev pub transfer_effect : Option Transfer → ℕ → Registers → Effect
transfer_effect None word registers = Illegal
transfer_effect (Some transfer) word registers = Memory (accessed transfer word registers)

-- What finish_load is owed: exec answers an access, and the bytes finish it. Those of a load are all that it accessed; a store has
-- none, but stwcx. the one that says whether it stored.
abbrev pub IsFinishedBy : Effect → List ℕ → Type 0
IsFinishedBy (Memory access) bytes =
    MatchBool access.store (access.form ≡ form.Conditional → (length bytes ≡ 1) × (slice_index bytes 0 ≤ 1)) (length bytes ≡ access.len)
IsFinishedBy _ bytes = ⊥

-- the registers after the access of an instruction
abbrev pub finished_by : Option Transfer → ℕ → List ℕ → Registers → Registers
finished_by None word bytes registers = registers
finished_by (Some transfer) word bytes registers = finished transfer word bytes registers

-- what stored is owed: exec answers the access of a store
abbrev pub IsStore : Effect → Type 0
IsStore (Memory access) = access.store ≡ true
IsStore _ = ⊥

abbrev pub stored_by : Option Transfer → ℕ → Registers → List ℕ
stored_by None word registers = []
stored_by (Some transfer) word registers = stored_bytes transfer.kind word registers
