-- The lines that are said.
use Rattle.std.specs.Prelude.{ℕ, ◌-◌, List, [], ◌∷◌, ◌++◌, Result, Ok, Err, codes, decimal}
use Rattle.fsd_bytes.specs.declared.refusal.Refusal.{Refusal}
use Rattle.fsd_bytes.specs.declared.refusal.Refusal.TheVariants.{NoSuch, Exists, TooLong, NoSpace, TooFragmented, NameTableFull, VersionsUsedUp, KeepTooLarge, BadClient, Busy, Idle, Short, Long, LayoutIs, NotLarger, PastMost}
use Rattle.fsd_bytes.specs.Keys.{key_text}
use Rattle.volume_layout.specs.declared.layout.Layout.{Layout}
use Rattle.volume_layout.specs.Layout.{data_start}
use Rattle.volume_layout.specs.declared.fault.LayoutFault.{LayoutFault}
use Rattle.volume_layout.specs.declared.fault.LayoutFault.TheVariants.{BadThird, BadPages, TooLarge, BadMost, TooSmall}
use Rattle.fsd_texts.specs.declared.bad_line.Cause.{Cause}
use Rattle.fsd_texts.specs.declared.bad_line.Cause.TheVariants.{LongLine, NoNewline, EmptyLine, UnknownWord, WordCount, BadNumber, BadName, BadKey, BadPattern, ShortBytes, NoNewlineAfterBytes}
use Rattle.fsd_texts.specs.declared.bad_line.BadLine.{BadLine}
use Rattle.fsd_texts.specs.declared.fault.Fault.{Fault}
use Rattle.fsd_texts.specs.declared.fault.Fault.TheVariants as Ends
use Rattle.fsd_texts.specs.declared.line.Line.{Line}
use Rattle.fsd_texts.specs.declared.line.Line.TheVariants as Says
use Rattle.fsd_texts.specs.declared.line.Line.TheVariants.{Usage, Bad, Formatted, Unplanned, Forced, Generated, Life, Refused, NoDump, Restored, Ended}
use Rattle.fsd_texts.specs.declared.part.Part.{Part}
use Rattle.fsd_texts.specs.declared.part.Part.TheVariants as Parts

abbrev pub newline : List ℕ
newline = 10 ∷ []

-- words with a space between each two, and a newline
abbrev pub line : List (List ℕ) → List ℕ
line [] = newline
line (w ∷ []) = w ++ newline
line (w ∷ v ∷ words) = w ++ (codes " " ++ line (v ∷ words))

abbrev pub number : ℕ → List ℕ
number n = decimal n

abbrev pub part_text : Part → List ℕ
part_text (Parts.Word word) = word.now
part_text (Parts.Key key) = key_text key.now
part_text (Parts.Number n) = number n

-- ---- refusals

abbrev pub refusal_words : Refusal → List (List ℕ)
refusal_words NoSuch = codes "no-such" ∷ []
refusal_words Exists = codes "exists" ∷ []
refusal_words (TooLong n) = codes "too-long" ∷ number n ∷ []
refusal_words (NoSpace need free) = codes "no-space" ∷ number need ∷ number free ∷ []
refusal_words (TooFragmented need best) = codes "fragmented" ∷ number need ∷ number best ∷ []
refusal_words (NameTableFull free) = codes "table-full" ∷ number free ∷ []
refusal_words VersionsUsedUp = codes "versions-used" ∷ []
refusal_words (KeepTooLarge keep) = codes "keep" ∷ number keep ∷ []
refusal_words (BadClient c) = codes "client" ∷ number c ∷ []
refusal_words (Busy c) = codes "busy" ∷ number c ∷ []
refusal_words (Idle c) = codes "idle" ∷ number c ∷ []
refusal_words (Short declared got) = codes "short" ∷ number declared ∷ number got ∷ []
refusal_words (Long declared got) = codes "long" ∷ number declared ∷ number got ∷ []
refusal_words (LayoutIs n) = codes "layout" ∷ number n ∷ []
refusal_words (NotLarger n) = codes "size" ∷ number n ∷ []
refusal_words (PastMost most) = codes "most" ∷ number most ∷ []
-- the others are told by lines of their own
refusal_words other = []

abbrev pub layout_words : LayoutFault → List (List ℕ)
layout_words (BadThird t) = codes "third" ∷ number t ∷ []
layout_words (BadPages p) = codes "pages" ∷ number p ∷ []
layout_words (TooLarge n) = codes "too-large" ∷ number n ∷ []
layout_words (BadMost q) = codes "most" ∷ number q ∷ []
layout_words (TooSmall need) = codes "too-small" ∷ number need ∷ []

abbrev pub refused_line : List (List ℕ) → List ℕ
refused_line words = line (codes "refused" ∷ words)

-- ---- how a run ends

abbrev pub fault_text : Fault → List ℕ
fault_text Ends.NotVolume = codes "fault not-a-volume" ++ newline
fault_text (Ends.Lost a b) = line (codes "fault" ∷ codes "lost" ∷ number a ∷ number b ∷ [])
fault_text Ends.NoAnchor = codes "fault no-anchor 8 12" ++ newline
fault_text (Ends.Unsound s) = line (codes "fault" ∷ codes "unsound" ∷ number s ∷ [])
fault_text (Ends.Device s) = line (codes "fault" ∷ codes "device" ∷ number s ∷ [])
fault_text Ends.Input = codes "fault input" ++ newline
fault_text Ends.InputTooLong = codes "fault input too long" ++ newline
fault_text Ends.Memory = codes "fault memory" ++ newline
fault_text Ends.WornOut = codes "fault worn out" ++ newline

abbrev pub memory_text : List ℕ
memory_text = fault_text Ends.Memory

abbrev pub cause_text : Cause → List ℕ
cause_text LongLine = codes "long line"
cause_text NoNewline = codes "no newline"
cause_text EmptyLine = codes "empty line"
cause_text UnknownWord = codes "unknown word"
cause_text WordCount = codes "word count"
cause_text BadNumber = codes "bad number"
cause_text BadName = codes "bad name"
cause_text BadKey = codes "bad key"
cause_text BadPattern = codes "bad pattern"
cause_text ShortBytes = codes "short bytes"
cause_text NoNewlineAfterBytes = codes "no newline after bytes"

abbrev pub bad_line_text : BadLine → List ℕ
bad_line_text bad = codes "bad line " ++ number bad.line ++ codes ": " ++ cause_text bad.cause ++ newline

-- ---- the lines, but for those that a reply alone says

abbrev pub text : Line → List ℕ
text Usage = codes "usage: cfs COMMAND IMAGE WORDS" ++ newline
text (Bad bad) = bad_line_text bad
text (Formatted n free) = line (codes "formatted" ∷ number n ∷ codes "free" ∷ number free ∷ [])
text (Unplanned why) = refused_line (layout_words why)
text Forced = codes "forced" ++ newline
text (Generated c) =
    line (codes "generated" ∷ number c.count ∷ codes "made" ∷ number c.made ∷ codes "deleted" ∷ number c.deleted ∷ codes "kept" ∷ number c.kept
    ∷ codes "read" ∷ number c.read ∷ codes "bytes" ∷ number c.bytes ∷ codes "refused" ∷ number c.refused ∷ [])
text (Life life) = line (codes "life" ∷ number life ∷ [])
text (Refused why) = refused_line (refusal_words why)
text (NoDump place) = refused_line (codes "dump" ∷ number place ∷ [])
text (Says.Exists key) = refused_line (codes "exists" ∷ key_text key ∷ [])
text (Restored count) = line (codes "restored" ∷ number count ∷ [])
text (Says.Damaged key s) = line (codes "damaged" ∷ key_text key ∷ number s ∷ [])
text (Ended fault) = fault_text fault

-- what a format says: all data sectors are free
abbrev pub format_line : Result Layout LayoutFault → Line
format_line (Ok l) = Formatted l.sectors (l.sectors - data_start l)
format_line (Err why) = Unplanned why
