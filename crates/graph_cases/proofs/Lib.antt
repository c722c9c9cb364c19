mod Counts
mod ExampleFacts
mod ThreePorts
mod SoundStores
