-- The lines that are said, byte by byte.
use Rattle.std.proofs.Common.{◌≡◌, List, ℕ, [], ◌∷◌, ◌++◌, map, refl, codes}
use Rattle.std.specs.Fmt.{digits}
use Rattle.fsd_bytes.specs.declared.refusal.Refusal.TheVariants as Why
use Rattle.volume_layout.specs.declared.fault.LayoutFault.TheVariants as Plan
use Rattle.fsd_texts.specs.declared.bad_line.Cause.TheVariants as Causes
use Rattle.fsd_texts.specs.declared.fault.Fault.TheVariants as Ends
use Rattle.fsd_texts.specs.declared.line.Line.TheVariants as Says
use Rattle.fsd_texts.specs.Text.{line, newline, text}

usage : text Says.Usage ≡ codes "usage: cfs COMMAND IMAGE WORDS" ++ newline
usage = refl

-- a space stands between each two words
words : map line ([] ∷ (codes "forced" ∷ []) ∷ (codes "listed" ∷ codes "1" ∷ []) ∷ (codes "made" ∷ codes "a!1" ∷ codes "2" ∷ []) ∷ [])
    ≡ map (λ (l : List ℕ). l ++ newline) (codes "" ∷ codes "forced" ∷ codes "listed 1" ∷ codes "made a!1 2" ∷ [])
words = refl

no_replies : map text (Says.Formatted 2048 1127 ∷ Says.Forced ∷ Says.Generated (record { count = 1; made = 2; deleted = 3; kept = 4; read = 5; bytes = 6; refused = 7 }) ∷ Says.Life 6 ∷ [])
    ≡ map (λ (l : List ℕ). l ++ newline) (codes "formatted 2048 free 1127" ∷ codes "forced" ∷ codes "generated 1 made 2 deleted 3 kept 4 read 5 bytes 6 refused 7" ∷ codes "life 6" ∷ [])
unfolding digits
no_replies = refl

refusals : map (λ why. text (Says.Refused why)) (Why.NoSuch ∷ Why.TooLong 4193793 ∷ Why.NoSpace 8192 1127 ∷ Why.TooFragmented 9 8 ∷ Why.NameTableFull 7 ∷ Why.VersionsUsedUp ∷ Why.KeepTooLarge 1000
    ∷ Why.BadClient 9 ∷ Why.Busy 1 ∷ Why.Idle 2 ∷ Why.Short 5 3 ∷ Why.Long 5 6 ∷ Why.LayoutIs 2 ∷ Why.NotLarger 2048 ∷ Why.PastMost 3968 ∷ [])
    ≡ map (λ (l : List ℕ). codes "refused " ++ l ++ newline) (codes "no-such" ∷ codes "too-long 4193793" ∷ codes "no-space 8192 1127" ∷ codes "fragmented 9 8" ∷ codes "table-full 7" ∷ codes "versions-used" ∷ codes "keep 1000"
    ∷ codes "client 9" ∷ codes "busy 1" ∷ codes "idle 2" ∷ codes "short 5 3" ∷ codes "long 5 6" ∷ codes "layout 2" ∷ codes "size 2048" ∷ codes "most 3968" ∷ [])
unfolding digits
refusals = refl

no_plans : map (λ why. text (Says.Unplanned why)) (Plan.BadThird 199 ∷ Plan.BadPages 15 ∷ Plan.TooLarge 16777217 ∷ Plan.BadMost 2047 ∷ Plan.TooSmall 721 ∷ [])
    ≡ map (λ (l : List ℕ). codes "refused " ++ l ++ newline) (codes "third 199" ∷ codes "pages 15" ∷ codes "too-large 16777217" ∷ codes "most 2047" ∷ codes "too-small 721" ∷ [])
unfolding digits
no_plans = refl

ends : map (λ why. text (Says.Ended why)) (Ends.NotVolume ∷ Ends.Lost 784 852 ∷ Ends.NoAnchor ∷ Ends.Unsound 784 ∷ Ends.Device 16 ∷ Ends.Input ∷ Ends.InputTooLong ∷ Ends.Memory ∷ Ends.WornOut ∷ [])
    ≡ map (λ (l : List ℕ). codes "fault " ++ l ++ newline) (codes "not-a-volume" ∷ codes "lost 784 852" ∷ codes "no-anchor 8 12" ∷ codes "unsound 784" ∷ codes "device 16" ∷ codes "input" ∷ codes "input too long" ∷ codes "memory" ∷ codes "worn out" ∷ [])
unfolding digits
ends = refl

bad_lines : map (λ cause. text (Says.Bad (record { line = 0; cause = cause }))) (Causes.LongLine ∷ Causes.NoNewline ∷ Causes.EmptyLine ∷ Causes.UnknownWord ∷ Causes.WordCount ∷ Causes.BadNumber ∷ Causes.BadName ∷ Causes.BadKey ∷ Causes.BadPattern
    ∷ Causes.ShortBytes ∷ Causes.NoNewlineAfterBytes ∷ [])
    ≡ map (λ (l : List ℕ). codes "bad line 0: " ++ l ++ newline) (codes "long line" ∷ codes "no newline" ∷ codes "empty line" ∷ codes "unknown word" ∷ codes "word count" ∷ codes "bad number" ∷ codes "bad name" ∷ codes "bad key" ∷ codes "bad pattern"
    ∷ codes "short bytes" ∷ codes "no newline after bytes" ∷ [])
unfolding digits
bad_lines = refl
