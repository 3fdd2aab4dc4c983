-- What a call does by the kind of what a handle stands for.
use Rattle.sacn_c.specs.declared.held_value.Held.{Held}
use Rattle.sacn_c.specs.declared.held_value.Held.TheVariants as held
use Rattle.sacn_node.specs.Cores as node
use Rattle.sacn_console.specs.Core as console
use Rattle.sacn_sources.specs.LatestMerge as sources
use Rattle.sacn_discovery.specs.Collection as discovery
use Rattle.sacn_monitor.specs.Books as monitor
use Rattle.sacn_source.specs.Source as source

module _ {X : Type 0} (other : X) where
  abbrev pub of_node : (node.Node → X) → Held → X
  of_node f (held.Node n) = f n
  of_node f (held.Console c) = other
  of_node f (held.Sources k) = other
  of_node f (held.Collector s) = other
  of_node f (held.Monitor b) = other
  of_node f (held.Source s) = other

  abbrev pub of_console : (console.Core → X) → Held → X
  of_console f (held.Node n) = other
  of_console f (held.Console c) = f c
  of_console f (held.Sources k) = other
  of_console f (held.Collector s) = other
  of_console f (held.Monitor b) = other
  of_console f (held.Source s) = other

  abbrev pub of_sources : (sources.Kept → X) → Held → X
  of_sources f (held.Node n) = other
  of_sources f (held.Console c) = other
  of_sources f (held.Sources k) = f k
  of_sources f (held.Collector s) = other
  of_sources f (held.Monitor b) = other
  of_sources f (held.Source s) = other

  abbrev pub of_collector : (discovery.State → X) → Held → X
  of_collector f (held.Node n) = other
  of_collector f (held.Console c) = other
  of_collector f (held.Sources k) = other
  of_collector f (held.Collector s) = f s
  of_collector f (held.Monitor b) = other
  of_collector f (held.Source s) = other

  abbrev pub of_monitor : (monitor.Book → X) → Held → X
  of_monitor f (held.Node n) = other
  of_monitor f (held.Console c) = other
  of_monitor f (held.Sources k) = other
  of_monitor f (held.Collector s) = other
  of_monitor f (held.Monitor b) = f b
  of_monitor f (held.Source s) = other

  abbrev pub of_source : (source.Source → X) → Held → X
  of_source f (held.Node n) = other
  of_source f (held.Console c) = other
  of_source f (held.Sources k) = other
  of_source f (held.Collector s) = other
  of_source f (held.Monitor b) = other
  of_source f (held.Source s) = f s
