-- What a page has.
use Rattle.fsd_formats.specs.NamePage as page
use Rattle.fsd_formats.specs.NamePage.{Content}
use Rattle.name_page.specs.declared.node.Node.{Node}
use Rattle.name_page.specs.declared.node.Node.TheVariants.{Free, Leaf, Interior}

abbrev pub content_of : Node → Content
content_of Free = page.Free
content_of (Leaf entries) = page.Leaf entries
content_of (Interior ways) = page.Interior ways.0 ways.1
