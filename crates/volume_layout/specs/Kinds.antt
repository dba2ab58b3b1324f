-- How much adjacent damage a volume bears.
use Rattle.std.specs.Prelude.{ℕ, ◌+◌, ◌==◌, if◌then◌else◌}
use Rattle.volume_layout.specs.declared.kind.Kind.{Kind}
use Rattle.volume_layout.specs.declared.kind.Kind.TheVariants.{Two, Three}
use Rattle.volume_layout.specs.Shape.{Shape}

-- how many more sectors than two
abbrev pub more : Kind → ℕ
more Two = 0
more Three = 1

-- the other one
abbrev pub other : Kind → Kind
other Two = Three
other Three = Two

-- so many blank sectors more than in layout 1 part what is near its copy
abbrev pub gap_of : Shape → ℕ
gap_of l = more l.kind

-- the sectors that a weak run may have
abbrev pub longest_of : Kind → ℕ
longest_of kind = 2 + more kind

-- the number of the layout
abbrev pub layout_number : Kind → ℕ
layout_number kind = 1 + more kind

-- the kind of a layout with this number, which is 1 or 2
abbrev pub kind_of : ℕ → Kind
kind_of number = if number == 2 then Three else Two
