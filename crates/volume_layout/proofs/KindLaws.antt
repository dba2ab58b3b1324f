-- A volume bears two or three damaged sectors.
use Rattle.std.proofs.Common.{◌≡◌, ◌≤◌, refl, arith}
use Rattle.volume_layout.specs.declared.kind.Kind.{Kind}
use Rattle.volume_layout.specs.declared.kind.Kind.TheVariants.{Two, Three}
use Rattle.volume_layout.specs.Shape.{Shape}
use Rattle.volume_layout.specs.Kinds.{more, gap_of, layout_number, kind_of}

pub more_most : (kind : Kind) → more kind ≤ 1
more_most Two = omega arith
more_most Three = omega arith

pub gap_most : (l : Shape) → gap_of l ≤ 1
gap_most l = more_most l.kind

pub kind_of_number : (kind : Kind) → kind_of (layout_number kind) ≡ kind
kind_of_number Two = refl
kind_of_number Three = refl
