mod Examples
mod Rules
mod LineCommands
