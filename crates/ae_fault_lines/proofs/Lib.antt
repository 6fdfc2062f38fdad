mod ShownRules
mod TypePlaces
