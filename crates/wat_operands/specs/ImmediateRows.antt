-- Sample texts as tokens, and the operands that they spell.
use Rattle.std.specs.Prelude.{◌≡◌, ℤ, true, false, List, [], ◌∷◌, ◌++◌, codes, Some, None}
use Rattle.wat_operands.specs.Prelude.{Keyword, Id, Integer, number, name, in_parens, Spelled, access_of, lane_arg, lane_access, memory, array, mem_arg, atomic_mem_arg, ordered, init, copy, index_or_0, bytes_of, v128_const}
use Rattle.wat_operands.specs.Lanes.{lane_of}
use Rattle.wat_operands.specs.declared.memory.MemArgOrdering.TheVariants.{Op, Rmw}
use Rattle.wat_operands.specs.declared.ordering.Ordering.TheVariants.{AcqRel, SeqCst}
use Rattle.wat_operands.specs.declared.vector.V128Const.TheVariants.{I32x4}

-- with the default alignment 4, `(type $a) offset=1 align=2` and `$m offset=0x10`
abbrev pub Accesses : Type 0
Accesses =
    Spelled (mem_arg 4) (in_parens (Keyword (codes "type") ∷ Id (codes "a") ∷ [])
    ++ Keyword (codes "offset=1") ∷ Keyword (codes "align=2") ∷ [])
    (record { target = array (name (codes "a")); offset = 1; align = 2; ordering = None })
    × Spelled (mem_arg 4) (Id (codes "m") ∷ Keyword (codes "offset=0x10") ∷ [])
    (record { target = memory (name (codes "m")); offset = 16; align = 4; ordering = None })

-- with the default alignment 4, `seqcst` of a read-modify-write instruction and `acqrel` of an
-- instruction that isn't read-modify-write
abbrev pub AtomicAccesses : Type 0
AtomicAccesses =
    Spelled (atomic_mem_arg 4 true) (Keyword (codes "seqcst") ∷ [])
    (record { target = memory (number 0); offset = 0; align = 4; ordering = Some (Rmw SeqCst) })
    × Spelled (atomic_mem_arg 4 false) (Keyword (codes "acqrel") ∷ [])
    (record { target = memory (number 0); offset = 0; align = 4; ordering = Some (Op AcqRel) })

-- `$m 1` with the default alignment 1, and the lane 255
abbrev pub LaneAccesses : Type 0
LaneAccesses =
    Spelled (lane_access 1) (Id (codes "m") ∷ Integer (codes "1") ∷ [])
    (access_of (
      record {
        target = memory (name (codes "m"));
        offset = 0;
        align = 1;
        ordering =
            None;
      },
      lane_of 1,
    )) × Spelled lane_arg (Integer (codes "255") ∷ []) (lane_of 255)

-- `1` and `2 1`: a single index is the segment, and the table is 0
abbrev pub TableInits : Type 0
TableInits =
    Spelled init (Integer (codes "1") ∷ []) (number 0, number 1)
    × Spelled init (Integer (codes "2") ∷ Integer (codes "1") ∷ []) (number 2, number 1)

-- no tokens, and `1 2`: destination 1 and source 2
abbrev pub TableCopies : Type 0
TableCopies =
    Spelled copy [] (number 0, number 0)
    × Spelled copy (Integer (codes "1") ∷ Integer (codes "2") ∷ []) (number 1, number 2)

-- `i32x4 1 -1 0x80000000 -0x80000000` has the bytes 01 00 00 00 FF FF FF FF 00 00 00 80 00 00 00 80
abbrev pub Vector : Type 0
Vector =
    (lanes : List ℤ) × Spelled v128_const
    (Keyword (codes "i32x4") ∷ Integer (codes "1") ∷ Integer (codes "-1")
    ∷ Integer (codes "0x80000000") ∷ Integer (codes "-0x80000000") ∷ []) (I32x4 lanes)
    × (bytes_of (I32x4 lanes) ≡ 1 ∷ 0 ∷ 0 ∷ 0 ∷ 255 ∷ 255 ∷ 255 ∷ 255 ∷ 0 ∷ 0 ∷ 0 ∷ 128 ∷ 0 ∷ 0 ∷ 0
    ∷ 128 ∷ [])

-- `acqrel`, and then no table: table 0
abbrev pub OrderedTable : Type 0
OrderedTable = Spelled (ordered index_or_0) (Keyword (codes "acqrel") ∷ []) (AcqRel, number 0)
