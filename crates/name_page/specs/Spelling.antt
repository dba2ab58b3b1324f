-- Parts of a page's spelling.
use Rattle.std.specs.Prelude.{ℕ, List, ◌++◌, codes}
use Rattle.fsd_bytes.specs.Bytes.{u8, u16, u32, zeros}
use Rattle.fsd_formats.specs.declared.entry.Entry.{Entry}
use Rattle.fsd_formats.specs.Record.{Stamp, stamp_bytes}

-- the first 24 bytes of a page
abbrev pub head : (kind count used page : ℕ) → Stamp → List ℕ
head kind count used page stamp = codes "CNPG" ++ u8 kind ++ zeros 1 ++ u16 count ++ u16 used ++ zeros 2 ++ u32 page ++ stamp_bytes stamp

-- the numbers of an entry, from the version to the length
abbrev pub numbers : Entry → List ℕ
numbers e = u32 e.key.version ++ u16 e.keep ++ u32 e.serial.epoch ++ u32 e.serial.count ++ u32 e.length
