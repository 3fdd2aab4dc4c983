pub mod NodeVisits
pub mod NodeRuns
pub mod ConsoleRuns
pub mod UsedConsoles
pub mod DeskRuns
pub mod GatewayRuns
pub mod Stage
