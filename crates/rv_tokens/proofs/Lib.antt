mod WrittenLines
mod WrittenNodes
mod WrittenReadings
mod ListGrowth
mod TokenCodeGrowth
mod TokenJoins
mod TokenFunctions
