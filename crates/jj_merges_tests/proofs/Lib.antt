mod KeptLabels
mod ThreeStrings
mod EditedStrings
