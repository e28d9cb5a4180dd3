-- What link records show, as links_entry says it; and what the connections to close show.
use Rattle.std.specs.Prelude.{List, map}
use Rattle.rules.specs.Data.{Pair}
use Rattle.node_addr.specs.View.{view_pair}
use Rattle.lib_list.specs.ShortList.{ShortList}
use Rattle.node_addr.specs.declared.Pair as pair
pub use Rattle.links_entry.specs.View.{path_of, FitPaths, path_count, no_path, link_of, view_links, FitLinks, link_count, no_link, view_dir, view_proven}
unfoldable pub use Rattle.links_entry.specs.View.{crowding}

abbrev pub view_closes : ShortList pair.Pair → List Pair
view_closes l = map view_pair l.items
